-- Records of the single operations: the arguments, then the result. Whether a record has the result
-- of the operation's definition, and how many words it is long.
use Rattle.std.specs.Prelude.{ℕ, ◌+◌, Bool, List}
use Rattle.std.specs.Float.Ieee.Scale.{finite}
use Rattle.ieee754.specs.Clamp.{clamp}
use Rattle.ieee754.specs.CopySign.{copysign}
use Rattle.ieee754.specs.Fma.{fma}
use Rattle.ieee754.specs.Magnitude.{abs}
use Rattle.ieee754.specs.Maximum.{max}
use Rattle.ieee754.specs.Root.{sqrt, cbrt}
use Rattle.ieee754.specs.TotalOrder.{total_order, total_cmp}
use Rattle.replay_records.specs.Contents.{double_at}
use Rattle.replay_records.specs.Agreement.{number_agrees, flag, double_agrees}
use Rattle.replay_doubles.specs.Types.{Operation, Abs, Copysign, Max, Clamp, IsFinite}
use Rattle.replay_doubles.specs.Types.{TotalOrder, TotalCmp, Sqrt, Cbrt, Fma}
use Rattle.replay_doubles.specs.Types.{Ordering, Less, Equal, Greater}

-- an order stands as 0, 1 or 2
abbrev pub order_number : Ordering → ℕ
order_number Less = 0
order_number Equal = 1
order_number Greater = 2

unfoldable pub operation_holds : Operation → List ℕ → Bool
operation_holds Abs s = double_agrees (abs (double_at s 0)) s 8
operation_holds Copysign s = double_agrees (copysign (double_at s 0) (double_at s 8)) s 16
operation_holds Max s = double_agrees (max (double_at s 0) (double_at s 8)) s 16
operation_holds Clamp s = double_agrees (clamp (double_at s 0) (double_at s 8) (double_at s 16)) s 24
operation_holds IsFinite s = number_agrees (flag (finite (double_at s 0))) s 8
operation_holds TotalOrder s = number_agrees (flag (total_order (double_at s 0) (double_at s 8))) s 16
operation_holds TotalCmp s = number_agrees (order_number (total_cmp (double_at s 0) (double_at s 8))) s 16
operation_holds Sqrt s = double_agrees (sqrt (double_at s 0)) s 8
operation_holds Cbrt s = double_agrees (cbrt (double_at s 0)) s 8
operation_holds Fma s = double_agrees (fma (double_at s 0) (double_at s 8) (double_at s 16)) s 24

-- the words that are taken, and the one that is given
abbrev pub operation_words : Operation → ℕ
operation_words Abs = 1 + 1
operation_words Copysign = 2 + 1
operation_words Max = 2 + 1
operation_words Clamp = 3 + 1
operation_words IsFinite = 1 + 1
operation_words TotalOrder = 2 + 1
operation_words TotalCmp = 2 + 1
operation_words Sqrt = 1 + 1
operation_words Cbrt = 1 + 1
operation_words Fma = 3 + 1

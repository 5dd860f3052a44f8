-- The difference of a finite number and itself is plus zero (`sub_same`), and the operands of a
-- finite difference are finite (`sub-operands`). Assumes nothing.
use mathlib.Core.Path.{◌≡◌, refl, sym, ◌∙◌}
use mathlib.Core.Bool.{Bool, true, false, not}
use Prim.Native.Nat.{ℕ, ◌-◌, ◌*◌, ◌<◌}
use native.Mathlib.Nat.{mul-pos, zero-lt-suc}
use native.Mathlib.Omega.{arith}
use lib.IntN.{pos}
use lib.Dec.{T, ltb}
use lib.Ieee.{Float, nan, inf, fin, binary64, up, down, round, sum, neg, add, sub, of_bits}
use lib.Ieee.Fits.{down_pos}
use lib.Ieee.Scale.{finite}
use borrow.Author.Tests.{le-ltb}
use Rattle.ieee754.specs.Literal.{plus_zero}
use Rattle.ieee754.proofs.RootValues.{round_root-one}
use Rattle.ieee754_laws.proofs.RoundScale.{round_root-zero}
use Rattle.ieee754_laws.proofs.Finite.{neg-operand, add-operands}

none : (a : ℕ) → a - a ≡ 0
none a = omega (arith)

round-zero : (s : Bool) (c : ℕ) → 0 < c → round binary64 s 0 c ≡ fin s 0 (pos 0)
round-zero s c C =
    sym (round_root-one binary64 s 0 c C) ∙ round_root-zero 1 (zero-lt-suc 0) s 0 c C refl

not-below : (a : ℕ) → ltb a a ≡ false
not-below a = le-ltb a a (omega (arith))

-- ±a / c less itself: the signs differ, and neither magnitude is below the other
sum_self : (s : Bool) (a c : ℕ) → 0 < c → sum binary64 s a (not s) a c ≡ fin false 0 (pos 0)
unfolding sum
sum_self true a c C = rw (not-below a, none a) (round-zero false c C)
sum_self false a c C = rw (not-below a, none a) (round-zero false c C)

pub sub_same : (x : Float) → T (finite x) → sub binary64 x x ≡ plus_zero
unfolding sub neg add of_bits
sub_same nan h = absurd h
sub_same (inf s) h = absurd h
sub_same (fin s m e) h =
    sum_self s (m * up e * down e) (down e * down e) (mul-pos (down_pos e) (down_pos e))

pub sub-operands : (x y : Float) → T (finite (sub binary64 x y)) → T (finite x) × T (finite y)
unfolding sub
sub-operands x y h =
    let both = add-operands x (neg y) h in
    (both.0, neg-operand y both.1)

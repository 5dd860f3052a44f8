-- Records of the root finders: the arguments, then the refusal number, 0 where nothing is refused,
-- of a quadratic the kind of its pair, and the roots; of the cube root, only the root. Whether a
-- record has the answer of the finder's definition, and how many words it is long.
use Rattle.std.specs.Prelude.{ℕ, ◌+◌, Bool, false, ◌&&◌, List, Float}
use Rattle.cubic_parts.specs.FastCbrt.{fast_cbrt}
use Rattle.polynomial.specs.PolishedRoot.{polished_cubic_root}
use Rattle.polynomial.specs.Quadratic.{quadratic_real_monic}
use Rattle.replay_records.specs.Contents.{double_at}
use Rattle.replay_records.specs.Agreement.{number_agrees, double_agrees}
use Rattle.replay_doubles.specs.Types.{Roots, Two, Double, Lifted, One, Refused}
use Rattle.replay_doubles.specs.Types.{Finder, Quadratic, Cubic, FastCbrt}

-- ---- the quadratic's two roots and their kind
unfoldable pub two_agree : ℕ → Float → Float → List ℕ → Bool
two_agree kind x y s =
    number_agrees 0 s 16 && number_agrees kind s 24 && double_agrees x s 32 && double_agrees y s 40

abbrev pub pair_agrees : Roots → List ℕ → Bool
pair_agrees (Two x y) s = two_agree 0 x y s
pair_agrees (Double x) s = two_agree 1 x x s
pair_agrees (Lifted x) s = two_agree 2 x x s
pair_agrees (One x) s = false
pair_agrees (Refused n) s = number_agrees n s 16

unfoldable pub quadratic_holds : List ℕ → Bool
quadratic_holds s = pair_agrees (quadratic_real_monic (double_at s 0) (double_at s 8)).value s

-- ---- the cubic's one root
abbrev pub root_agrees : Roots → List ℕ → Bool
root_agrees (Two x y) s = false
root_agrees (Double x) s = false
root_agrees (Lifted x) s = false
root_agrees (One x) s = number_agrees 0 s 24 && double_agrees x s 32
root_agrees (Refused n) s = number_agrees n s 24

unfoldable pub cubic_holds : List ℕ → Bool
cubic_holds s = root_agrees (polished_cubic_root (double_at s 0) (double_at s 8) (double_at s 16)).value s

-- ---- by the finder
unfoldable pub finder_holds : Finder → List ℕ → Bool
finder_holds Quadratic s = quadratic_holds s
finder_holds Cubic s = cubic_holds s
finder_holds FastCbrt s = double_agrees (fast_cbrt (double_at s 0)).value s 8

-- the words that are taken, and those that are given
abbrev pub finder_words : Finder → ℕ
finder_words Quadratic = 2 + 4
finder_words Cubic = 3 + 2
finder_words FastCbrt = 1 + 1

-- One answer to every input, for the root finders: the quadratic answers with two roots, 4 or 5,
-- the cubic with one root, 4 or 6, each exactly where `QuadraticAnswer` and `CubicAnswer` say; the
-- quadratic's two are told apart by the discriminant. That it holds of every input is
-- `quadratic-answer` and `cubic-answer` in the proofs.
use Rattle.std.specs.Prelude.{◌≡◌, Bool, true, not, ◌&&◌, ◌||◌, [], ◌∷◌, ℕ, T, Float}
use Rattle.std.specs.Prelude.{Option, Some, None}
use Rattle.std.specs.Float.{binary64}
use Rattle.std.specs.Float.Ieee.{mul, neg, lt, eq}
use Rattle.std.specs.Float.Ieee.Scale.{finite}
use Rattle.ieee754.specs.Literal.{plus_zero}
use Rattle.ieee754.specs.Magnitude.{abs}
use Rattle.cubic_parts.specs.CubicScale.{all_zero, cubic_variable_scale, normalised}
use Rattle.cubic_parts.specs.CubicStart.{start_root}
use Rattle.cubic_parts.specs.Newton.{newton_steps}
use Rattle.polynomial.specs.Answer.{number, values, kind}
use Rattle.polynomial.specs.Quadratic.{discriminant_of, band_of}
use Rattle.polynomial.specs.Types.{Monic, Roots}

-- ---- the kinds of answer
-- refused with a number: there are no roots
pub record NoRoots (refusal : ℕ) (answer : Roots) : Type 0 where
  pub refused : number answer ≡ refusal
  pub roots : values answer ≡ []

pub record TwoRoots (answer : Roots) : Type 0 where
  pub first : Float
  pub second : Float
  pub not-refused : number answer ≡ 0
  pub roots : values answer ≡ first ∷ second ∷ []

-- the kind of two roots, by the discriminant as computed: it is above zero, is zero (minus zero
-- too) or is below zero
pub data PairKind (discriminant : Float) (answer : Roots) : Type 0 where
  above_zero : T (lt plus_zero discriminant) → kind answer ≡ 0 → PairKind discriminant answer
  at_zero : T (eq discriminant plus_zero) → kind answer ≡ 1 → PairKind discriminant answer
  below-zero : T (lt discriminant plus_zero) → kind answer ≡ 2 → PairKind discriminant answer

pub record OneRoot (answer : Roots) : Type 0 where
  pub root : Float
  pub not-refused : number answer ≡ 0
  pub roots : values answer ≡ root ∷ []
  pub root-finite : T (finite root)

-- ---- the tests
-- the discriminant is below minus the band or not finite
unfoldable pub no_real_pair : Float → Float → Bool
no_real_pair b c =
    let discriminant = (discriminant_of b c).value in
    lt discriminant (neg (band_of b (abs c)).value) || not (finite discriminant)

-- no start was found, or the root that the Newton steps lead to, at the scale of the coefficients,
-- is not finite
unfoldable pub nothing_from : Monic → Float → Option Float → Bool
nothing_from m variable_scale None = true
nothing_from m variable_scale (Some start) =
    not (finite (mul binary64 (newton_steps 4 m start).value variable_scale))

-- `polished_cubic_root` gives no root: not for three zeros, whose root is plus zero
unfoldable pub no_cubic_root : Float → Float → Float → Bool
no_cubic_root b c d =
    let variable_scale = (cubic_variable_scale b c d).value in
    let m = (normalised b c d variable_scale).value in
    not (all_zero b c d) && nothing_from m variable_scale (start_root m).value

-- ---- the quadratic: number 4 where a coefficient is not finite, and only there; of finite ones,
--      number 5 where there is no real pair, and only there; otherwise two roots of their kind
pub data QuadraticAnswer (b c : Float) (answer : Roots) : Type 0 where
  quadratic-4 : T (not (finite b && finite c)) → NoRoots 4 answer → QuadraticAnswer b c answer
  quadratic-5 : T (finite b && finite c)
      → T (no_real_pair b c)
      → NoRoots 5 answer
      → QuadraticAnswer b c answer
  quadratic-roots : T (finite b && finite c)
      → T (not (no_real_pair b c))
      → TwoRoots answer
      → PairKind (discriminant_of b c).value answer
      → QuadraticAnswer b c answer

-- ---- the cubic: the same with number 6, and otherwise one root, which is finite
pub data CubicAnswer (b c d : Float) (answer : Roots) : Type 0 where
  cubic-4 : T (not (finite b && finite c && finite d))
      → NoRoots 4 answer
      → CubicAnswer b c d answer
  cubic-6 : T (finite b && finite c && finite d)
      → T (no_cubic_root b c d)
      → NoRoots 6 answer
      → CubicAnswer b c d answer
  cubic-root : T (finite b && finite c && finite d)
      → T (not (no_cubic_root b c d))
      → OneRoot answer
      → CubicAnswer b c d answer

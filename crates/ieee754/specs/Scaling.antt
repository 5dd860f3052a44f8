-- What the scaling rule, demand 3 of the mission, says of two runs. k is fixed: the world's
-- coordinates differ by the factor 2 ^ k between them. A quantity has a degree n, a whole number,
-- and is 2 ^ (n * k) times as large in the second run: a length has degree 1, an area 2, a cosine
-- or a bearing 0.
use Rattle.std.specs.Prelude.{◌≡◌, ℕ, zero, suc, ℤ, ◌+ℤ◌, ◌*ℤ◌, T, Float, Option, Some, None}
use Rattle.std.specs.Float.{nan, inf, fin}
use Rattle.ieee754.specs.Traced.{Traced}

-- 2 ^ t times a value, for any whole number t: the exponent moves. A zero, an infinity and `nan`
-- stay as they are.
abbrev pub moved : ℤ → ℕ → ℤ → ℤ
moved t zero e = e
moved t (suc m) e = e +ℤ t

unfoldable pub scale : ℤ → Float → Float
scale t nan = nan
scale t (inf s) = inf s
scale t (fin s m e) = fin s m (moved t m e)

-- two runs, if both are regular, give results in the relation R
pub record Both {A : Type 0} (R : A → A → Type 0) (m m' : Traced A) : Type 0 where
  pub results : T m.regular → T m'.regular → R m.value m'.value

-- both runs have a value, and the two are in the relation R, or neither run has one
pub data AtOption {A : Type 0} (R : A → A → Type 0) : Option A → Option A → Type 0 where
  some-at : {a a' : A} → R a a' → AtOption R (Some a) (Some a')
  none-at : AtOption R None None

-- the floats x and x' of the two runs, at the degree n
pub record At (k n : ℤ) (x x' : Float) : Type 0 where
  pub scaled : x' ≡ scale (n *ℤ k) x

abbrev pub Scales : ℤ → ℤ → Traced Float → Traced Float → Type 0
Scales k n m m' = Both (At k n) m m'

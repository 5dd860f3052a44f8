-- The two places where f64::MIN_POSITIVE, which does not scale, stands in the Rust beside a value
-- that does. `max(x, MIN_POSITIVE)` is always multiplied by a small factor, and where that product
-- is regular the maximum is x (`floored`). And `norm > MIN_POSITIVE` asks of the root of a regular
-- sum only whether the sum is above zero (`norm-at`). Assumes nothing.
use mathlib.Core.Path.{◌≡◌, refl, sym, ◌∙◌, subst}
use mathlib.Core.Logic.{◌⊎◌, inl, inr}
use mathlib.Core.Bool.{Bool, true, false, not, cond, ◌&&◌}
use lib.IntN.{ℤ, pos, ◌+ℤ◌}
use lib.Dec.{T, T_not}
use lib.Ieee.{Float, binary64, mul, round, lt, is_nan, of_bits}
use lib.Ieee.Fits.{and_l, and_r}
use Rattle.ieee754.specs.Literal.{double, sixty_four, epsilon, min_positive}
use Rattle.ieee754.specs.CopySign.{negative}
use Rattle.ieee754.specs.Maximum.{max}
use Rattle.ieee754.specs.Root.{sqrt}
use Rattle.ieee754.specs.Traced as traced
use Rattle.ieee754.specs.Traced.{Traced, in_range, mul_regular, sqrt_regular}
use Rattle.ieee754.specs.Scaling.{Both, At, Scales}
use Rattle.ieee754_laws.proofs.RegularNormal.{zero_or_normal, sqrt-above}
use Rattle.ieee754_laws.proofs.Degrees.{null, !◌, ◌⊗◌, √◌, lt_same}

-- ---- max(x, MIN_POSITIVE)
pub max-either : (x y : Float) → (max x y ≡ x) ⊎ (max x y ≡ y)
unfolding max
max-either x y = go (is_nan x) (is_nan y) (lt x y) (lt y x) (negative x)
  where
    go : (a b c d e : Bool)
        → let m = cond a y (cond b x (cond c y (cond d x (cond e y x)))) in (m ≡ x) ⊎ (m ≡ y)
    go true b c d e = inr refl
    go false true c d e = inl refl
    go false false true d e = inr refl
    go false false false true e = inl refl
    go false false false false true = inr refl
    go false false false false false = inl refl

-- where c * MIN_POSITIVE is not regular, and c * max(x, MIN_POSITIVE) is
pub max-regular : (c x : Float)
    → T (not (mul_regular c min_positive))
    → T (mul_regular c (max x min_positive))
    → max x min_positive ≡ x
max-regular c x small r = go (max-either x min_positive)
  where
    go : (max x min_positive ≡ x) ⊎ (max x min_positive ≡ min_positive) → max x min_positive ≡ x
    go (inl e) = e
    go (inr e) =
        absurd
        (T_not (mul_regular c min_positive) small (subst (λ (m : Float). T (mul_regular c m)) e r))

-- the factor c is itself a formula that is equal in the two runs, as `64.0 * f64::EPSILON` is
pub floored : {k n : ℤ} {c : Traced Float} {x x' : Float}
    → Scales k (pos 0) c c
    → T (not (mul_regular c.value min_positive))
    → At k n x x'
    → Scales k (pos 0 +ℤ n)
    (traced.◌⊗◌ c (traced.!◌ (max x min_positive)))
    (traced.◌⊗◌ c (traced.!◌ (max x' min_positive)))
floored {c = c} {x = x} {x' = x'} same small h = record {
  results = λ r r'.
      let e =
      max-regular c.value x small
      (and_r (c.regular && true) (mul_regular c.value (max x min_positive)) r) in
      let e' =
      max-regular c.value x' small
      (and_r (c.regular && true) (mul_regular c.value (max x' min_positive)) r') in
      rw (e, e') ((same ⊗ ! h).results (rw e at r) (rw e' at r'));
}

-- 32.0 * f64::EPSILON and 64.0 * f64::EPSILON are small enough
pub epsilon32-small :
    T (not (mul_regular (mul binary64 (double 0x4040_0000_0000_0000) epsilon) min_positive))
unfolding mul_regular in_range mul round of_bits
epsilon32-small = tt

pub epsilon64-small :
    T (not (mul_regular (mul binary64 sixty_four epsilon) min_positive))
unfolding mul_regular in_range mul round of_bits
epsilon64-small = tt

-- ---- norm > MIN_POSITIVE
pub norm-same : {k n : ℤ} {x x' : Float}
    → At k n x x'
    → T (zero_or_normal x)
    → T (zero_or_normal x')
    → lt min_positive (sqrt x) ≡ lt min_positive (sqrt x')
norm-same {x = x} {x' = x'} h r r' = sqrt-above x r ∙ lt_same null h ∙ sym (sqrt-above x' r')

-- the root of a squared length m that is zero or normal where it is regular, with what the test
-- says
pub norm-at : {k n : ℤ} {m m' : Traced Float}
    → Scales k (n +ℤ n) m m'
    → (T m.regular → T (zero_or_normal m.value))
    → (T m'.regular → T (zero_or_normal m'.value))
    → Both (λ r r'. At k n r r' × (lt min_positive r ≡ lt min_positive r'))
    (traced.√◌ m) (traced.√◌ m')
norm-at {m = m} {m' = m'} h s s' = record {
  results = λ r r'.
      let a = and_l m.regular (sqrt_regular m.value) r in
      let a' = and_l m'.regular (sqrt_regular m'.value) r' in
      ((√ h).results r r', norm-same (h.results a a') (s a) (s' a'));
}

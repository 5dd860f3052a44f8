-- The operations on vectors scale: at the degrees of their operands, they give a result at theirs.
-- Each proof is the formula, with the hypotheses on its inputs in their places. Assumes nothing.
use mathlib.Core.Path.{◌≡◌}
use mathlib.Core.Bool.{◌&&◌}
use lib.IntN.{ℤ, pos, ◌+ℤ◌, ◌-ℤ◌}
use lib.Ieee.{Float}
use Rattle.ieee754.specs.Scaling.{Both, At, Scales}
use Rattle.ieee754.specs.Traced as traced
use Rattle.ieee754.specs.Traced.{Traced}
use Rattle.ieee754_laws.proofs.Degrees.{same, at_zero, null, !◌, ◌⊗◌, ◌⊘◌, ◌⊕◌, ◌⊖◌, pure, ◌>>=◌}
use Rattle.ieee754_laws.proofs.Degrees.{abs-at, finite-same}
use Rattle.linalg.specs.Types.{Vector3}
use Rattle.linalg.specs.Vectors.{vector, zeros, vec_sub, vec_add, vec_mul, vec_div, dot}
use Rattle.linalg.specs.Vectors.{norm_squared, cross, abs_sum, all_finite}
use Rattle.linalg.specs.VectorScaling.{AtEntries, AtVector}

-- three entries, computed one after another
abbrev pub entries : Traced Float → Traced Float → Traced Float → Traced Vector3
entries p q r =
    traced.◌>>=◌ p λ x. traced.◌>>=◌ q λ y. traced.◌>>=◌ r λ z. traced.pure (vector x y z)

module _ {k : ℤ} where
  -- what is equal in the two runs has degree 0, and what has degree 0 is equal
  pub same-vector : (v : Vector3) → AtVector k (pos 0) v v
  same-vector v = record { x = same v.x; y = same v.y; z = same v.z }

  pub vector-at-zero : {v v' : Vector3} → AtVector k (pos 0) v v' → v ≡ v'
  vector-at-zero h =
      λ i. record { x = at_zero h.x i; y = at_zero h.y i; z = at_zero h.z i }

  -- the zero vector has every degree
  pub null-vector : {n : ℤ} → AtVector k n zeros zeros
  null-vector = record { x = null; y = null; z = null }

  pub entries-scale : {n : ℤ} {p p' q q' r r' : Traced Float}
      → Scales k n p p'
      → Scales k n q q'
      → Scales k n r r'
      → Both (AtVector k n) (entries p q r) (entries p' q' r')
  entries-scale p q r =
      p >>= λ _ _ x. q >>= λ _ _ y. r >>= λ _ _ z. pure (record { x = x; y = y; z = z })

  pub abs_sum-scales : {n : ℤ} {v v' : Vector3}
      → AtVector k n v v'
      → Scales k n (abs_sum v) (abs_sum v')
  unfolding abs_sum
  abs_sum-scales v = ! null ⊕ ! abs-at v.x ⊕ ! abs-at v.y ⊕ ! abs-at v.z

  pub all_finite-same : {p q r : ℤ} {v v' : Vector3}
      → AtEntries k p q r v v'
      → all_finite v ≡ all_finite v'
  unfolding all_finite
  all_finite-same v = λ i. finite-same v.x i && finite-same v.y i && finite-same v.z i

  pub vec_mul-scales : {n p : ℤ} {v v' : Vector3} {s s' : Float}
      → AtVector k n v v'
      → At k p s s'
      → Both (AtVector k (n +ℤ p)) (vec_mul v s) (vec_mul v' s')
  unfolding vec_mul
  vec_mul-scales v s = entries-scale (! v.x ⊗ ! s) (! v.y ⊗ ! s) (! v.z ⊗ ! s)

  pub vec_div-scales : {n p : ℤ} {v v' : Vector3} {s s' : Float}
      → AtVector k n v v'
      → At k p s s'
      → Both (AtVector k (n -ℤ p)) (vec_div v s) (vec_div v' s')
  unfolding vec_div
  vec_div-scales v s = entries-scale (! v.x ⊘ ! s) (! v.y ⊘ ! s) (! v.z ⊘ ! s)

  pub vec_sub-scales : {n : ℤ} {a a' b b' : Vector3}
      → AtVector k n a a'
      → AtVector k n b b'
      → Both (AtVector k n) (vec_sub a b) (vec_sub a' b')
  unfolding vec_sub
  vec_sub-scales a b =
      entries-scale (! a.x ⊖ ! b.x) (! a.y ⊖ ! b.y) (! a.z ⊖ ! b.z)

  pub vec_add-scales : {n : ℤ} {a a' b b' : Vector3}
      → AtVector k n a a'
      → AtVector k n b b'
      → Both (AtVector k n) (vec_add a b) (vec_add a' b')
  unfolding vec_add
  vec_add-scales a b =
      entries-scale (! a.x ⊕ ! b.x) (! a.y ⊕ ! b.y) (! a.z ⊕ ! b.z)

  pub cross-scales : {n p : ℤ} {a a' b b' : Vector3}
      → AtVector k n a a'
      → AtVector k p b b'
      → Both (AtVector k (n +ℤ p)) (cross a b) (cross a' b')
  unfolding cross
  cross-scales a b =
      entries-scale
      (! a.y ⊗ ! b.z ⊖ ! a.z ⊗ ! b.y)
      (! a.z ⊗ ! b.x ⊖ ! a.x ⊗ ! b.z)
      (! a.x ⊗ ! b.y ⊖ ! a.y ⊗ ! b.x)

  pub dot-scales : {n p : ℤ} {a a' b b' : Vector3}
      → AtVector k n a a'
      → AtVector k p b b'
      → Scales k (n +ℤ p) (dot a b) (dot a' b')
  unfolding dot
  dot-scales a b = ! a.x ⊗ ! b.x ⊕ ! a.y ⊗ ! b.y ⊕ ! a.z ⊗ ! b.z

  pub norm_squared-scales : {n : ℤ} {v v' : Vector3}
      → AtVector k n v v'
      → Scales k (n +ℤ n) (norm_squared v) (norm_squared v')
  unfolding norm_squared
  norm_squared-scales v = dot-scales v v

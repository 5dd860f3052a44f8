-- nalgebra's operations on Vector3<f64>, in document 01's reading ("Rounding and sums"): a dot is
-- (first + second) + third, a squared length is the dot with itself, and `sum` starts from plus
-- zero.
use Rattle.std.specs.Prelude.{Bool, ◌&&◌, Float}
use Rattle.std.specs.Float.Ieee.Scale.{finite}
use Rattle.ieee754.specs.Literal.{plus_zero}
use Rattle.ieee754.specs.Magnitude.{abs}
use Rattle.ieee754.specs.Traced.{Traced, pure, ◌>>=◌, ◌⊗◌, ◌⊕◌, ◌⊖◌, ◌⊘◌, !◌, √◌}
use Rattle.linalg.specs.Types.{Vector3}

-- Vector3::new
abbrev pub vector : Float → Float → Float → Vector3
vector x y z = record { x = x; y = y; z = z }

abbrev pub zeros : Vector3
zeros = vector plus_zero plus_zero plus_zero

-- a - b
unfoldable pub vec_sub : Vector3 → Vector3 → Traced Vector3
vec_sub a b = do
  x ← ! a.x ⊖ ! b.x
  y ← ! a.y ⊖ ! b.y
  z ← ! a.z ⊖ ! b.z
  pure (vector x y z)

-- a + b
unfoldable pub vec_add : Vector3 → Vector3 → Traced Vector3
vec_add a b = do
  x ← ! a.x ⊕ ! b.x
  y ← ! a.y ⊕ ! b.y
  z ← ! a.z ⊕ ! b.z
  pure (vector x y z)

-- v * s
unfoldable pub vec_mul : Vector3 → Float → Traced Vector3
vec_mul v s = do
  x ← ! v.x ⊗ ! s
  y ← ! v.y ⊗ ! s
  z ← ! v.z ⊗ ! s
  pure (vector x y z)

-- v / s: a division an entry
unfoldable pub vec_div : Vector3 → Float → Traced Vector3
vec_div v s = do
  x ← ! v.x ⊘ ! s
  y ← ! v.y ⊘ ! s
  z ← ! v.z ⊘ ! s
  pure (vector x y z)

-- a.dot(&b)
unfoldable pub dot : Vector3 → Vector3 → Traced Float
dot a b = ! a.x ⊗ ! b.x ⊕ ! a.y ⊗ ! b.y ⊕ ! a.z ⊗ ! b.z

-- v.norm_squared()
unfoldable pub norm_squared : Vector3 → Traced Float
norm_squared v = dot v v

-- v.norm()
unfoldable pub norm : Vector3 → Traced Float
norm v = √ norm_squared v

-- a.cross(&b)
unfoldable pub cross : Vector3 → Vector3 → Traced Vector3
cross a b = do
  x ← ! a.y ⊗ ! b.z ⊖ ! a.z ⊗ ! b.y
  y ← ! a.z ⊗ ! b.x ⊖ ! a.x ⊗ ! b.z
  z ← ! a.x ⊗ ! b.y ⊖ ! a.y ⊗ ! b.x
  pure (vector x y z)

-- v.abs().sum()
unfoldable pub abs_sum : Vector3 → Traced Float
abs_sum v = ! plus_zero ⊕ ! abs v.x ⊕ ! abs v.y ⊕ ! abs v.z

-- v.iter().all(|value| value.is_finite())
unfoldable pub all_finite : Vector3 → Bool
all_finite v = finite v.x && finite v.y && finite v.z

-- The first difference is plus zero wherever the first point is finite (`first-plus-zero`), and
-- where the differences are finite so are the points (`points-finite`). Document 02, §1. Assumes
-- nothing.
use mathlib.Core.Path.{◌≡◌}
use lib.Dec.{T}
use lib.Ieee.Scale.{finite}
use Rattle.ieee754.proofs.Tests.{three, all_three}
use Rattle.ieee754_laws.proofs.SubLaws.{sub_same, sub-operands}
use Rattle.linalg.specs.Vectors.{zeros, vec_sub, all_finite}
use Rattle.linalg.proofs.Finite.{entries-finite}
use Rattle.frames.specs.Points.{world_finite}
use Rattle.about.specs.Differences.{differences}
use Rattle.about.specs.Types.{Vector3, World}

vec_sub-same : (v : Vector3) → T (all_finite v) → (vec_sub v v).value ≡ zeros
unfolding vec_sub
vec_sub-same v h =
    let f = entries-finite v h in
    λ i. record {
      x = sub_same v.x f.0 i;
      y = sub_same v.y f.1 i;
      z = sub_same v.z f.2 i;
    }

pub first-plus-zero : (world : World)
    → T (all_finite world.p0)
    → (differences world).value.p0 ≡ zeros
unfolding differences
first-plus-zero world h = vec_sub-same world.p0 h

-- ---- the operands of a finite difference are finite
vec_sub-finite : (a b : Vector3) → T (all_finite (vec_sub a b).value) → T (all_finite a)
unfolding vec_sub all_finite
vec_sub-finite a b h =
    let f = entries-finite (vec_sub a b).value h in
    all_three (finite a.x) (finite a.y) (finite a.z)
    (sub-operands a.x b.x f.0).0
    (sub-operands a.y b.y f.1).0
    (sub-operands a.z b.z f.2).0

pub points-finite : (world : World)
    → T (world_finite (differences world).value)
    → T (world_finite world)
unfolding differences world_finite
points-finite world h =
    let p0 = world.p0 in
    let p1 = world.p1 in
    let p2 = world.p2 in
    let f =
    three (all_finite (vec_sub p0 p0).value) (all_finite (vec_sub p1 p0).value)
    (all_finite (vec_sub p2 p0).value) h in
    all_three (all_finite p0) (all_finite p1) (all_finite p2)
    (vec_sub-finite p0 p0 f.0) (vec_sub-finite p1 p0 f.1) (vec_sub-finite p2 p0 f.2)

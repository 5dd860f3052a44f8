-- A finite vector has finite entries (`entries-finite`). Where t = c - R p is finite so is the
-- matrix R, each of whose entries t takes in (`rotation-finite`). Assumes nothing.
use lib.Dec.{T}
use lib.Ieee.{Float, binary64, neg, add, sub, mul}
use lib.Ieee.Scale.{finite}
use Rattle.ieee754.proofs.Tests.{three, all_three}
use Rattle.ieee754_laws.proofs.Finite.{neg-operand, add-operands, mul-operands}
use Rattle.linalg.specs.Vectors.{all_finite, vec_sub}
use Rattle.linalg.specs.Matrices.{mat_vec, mat_finite, column0, column1, column2}
use Rattle.linalg.specs.Types.{Vector3, Matrix3}

pub entries-finite : (v : Vector3)
    → T (all_finite v)
    → T (finite v.x) × T (finite v.y) × T (finite v.z)
unfolding all_finite
entries-finite v = three (finite v.x) (finite v.y) (finite v.z)

-- one entry of c - R p, and the three of R in its row
row_operands : (c a x b y d z : Float)
    → let ax = mul binary64 a x in
    let b-y = mul binary64 b y in
    let dz = mul binary64 d z in
    T (finite (sub binary64 c (add binary64 (add binary64 ax b-y) dz)))
    → T (finite a) × T (finite b) × T (finite d)
unfolding sub
row_operands c a x b y d z h =
    let ax = mul binary64 a x in
    let b-y = mul binary64 b y in
    let dz = mul binary64 d z in
    let sum = add binary64 (add binary64 ax b-y) dz in
    let turned = neg-operand sum (add-operands c (neg sum) h).1 in
    let last = add-operands (add binary64 ax b-y) dz turned in
    let first = add-operands ax b-y last.0 in
    ((mul-operands a x first.0).0, (mul-operands b y first.1).0, (mul-operands d z last.1).0)

pub rotation-finite : (c : Vector3) (r : Matrix3) (p : Vector3)
    → T (all_finite (vec_sub c (mat_vec r p).value).value)
    → T (mat_finite r)
unfolding vec_sub mat_vec all_finite mat_finite
rotation-finite c r p h =
    let t = entries-finite (vec_sub c (mat_vec r p).value).value h in
    let row0 = row_operands c.x r.m00 p.x r.m01 p.y r.m02 p.z t.0 in
    let row1 = row_operands c.y r.m10 p.x r.m11 p.y r.m12 p.z t.1 in
    let row2 = row_operands c.z r.m20 p.x r.m21 p.y r.m22 p.z t.2 in
    all_three (all_finite (column0 r)) (all_finite (column1 r)) (all_finite (column2 r))
    (all_three (finite r.m00) (finite r.m10) (finite r.m20) row0.0 row1.0 row2.0)
    (all_three (finite r.m01) (finite r.m11) (finite r.m21) row0.1 row1.1 row2.1)
    (all_three (finite r.m02) (finite r.m12) (finite r.m22) row0.2 row1.2 row2.2)

-- Every operation keeps the promise of specs/Promise: it leaves a plate that is worked out from its
-- points, or the old one. Assumes nothing.
use mathlib.Core.Path.{◌≡◌, refl, sym, ap}
use mathlib.Core.Bool.{not, ◌||◌}
use Prim.Native.Nat.{ℕ}
use native.Mathlib.Nat.{zero-lt-suc}
use lib.Dec.{ltb}
use lib.IntN.{ℤ}
use Rattle.ieee754.proofs.Tests.{either_way}
use Rattle.scaleb.specs.Scalable.{in_reach}
use Rattle.linalg.specs.Vectors.{all_finite}
use Rattle.frames.specs.Points.{world_finite}
use Rattle.p3p_common.specs.WorldBasisInverse.{world_basis_inverse}
use Rattle.orderings.specs.Edges.{edge_vectors, squared_edges}
use Rattle.plates.specs.Plate.{with_basis, plate_of, Consistent, zero_plate}
use Rattle.plates.specs.Outcome.{done}
use Rattle.plates.specs.Make.{make}
use Rattle.plates.specs.Replace.{replace}
use Rattle.plates.specs.Exchange.{exchange}
use Rattle.plates.specs.TimesPower.{world_scalable, times_power}
use Rattle.plates.specs.Promise.{Keeps, worked-out, given_back}
use Rattle.plates.specs.Types.{Vector3, Matrix3, World, SquaredEdges, Option, Some, None, Plate}

-- ---- a plate has the points that it is worked out from
same_points : (world : World) (edges : SquaredEdges) (basis : Option Matrix3)
    → (with_basis world edges basis).world ≡ world
unfolding with_basis
same_points world edges (Some inverse) = refl
same_points world edges None = refl

pub worked-out-consistent : (world : World) → Consistent (plate_of world).value
unfolding plate_of
worked-out-consistent world =
    let vectors = (edge_vectors world).value in
    ap (λ (w : World). (plate_of w).value)
    (sym (same_points world (squared_edges vectors).value
    (world_basis_inverse vectors.d01 vectors.d02).value))

pub done-keeps : (old : Plate) (world : World) → Keeps old (done world)
unfolding done
done-keeps old world = worked-out (plate_of world).value (worked-out-consistent world)

-- ---- the operations
pub make-keeps : (world : World) → Keeps zero_plate (make world)
unfolding make
make-keeps world =
    either_way (Keeps zero_plate) (not (world_finite world))
    (λ _. given_back 1 (zero-lt-suc 0))
    (λ _. done-keeps zero_plate world)

pub replace-keeps : (plate : Plate) (number : ℕ) (point : Vector3)
    → Keeps plate (replace plate number point)
unfolding replace
replace-keeps plate number point =
    either_way (Keeps plate) (not (all_finite point))
    (λ _. given_back 1 (zero-lt-suc 0))
    (λ _. either_way (Keeps plate) (ltb 2 number)
    (λ _. given_back 11 (zero-lt-suc 10))
    (λ _. done-keeps plate _))

pub exchange-keeps : (plate : Plate) (first second : ℕ)
    → Keeps plate (exchange plate first second)
unfolding exchange
exchange-keeps plate first second =
    either_way (Keeps plate) (ltb 2 first || ltb 2 second)
    (λ _. given_back 11 (zero-lt-suc 10))
    (λ _. done-keeps plate _)

pub times-power-keeps : (plate : Plate) (k : ℤ) → Keeps plate (times_power plate k)
unfolding times_power
times-power-keeps plate k =
    either_way (Keeps plate) (not (in_reach k))
    (λ _. given_back 12 (zero-lt-suc 11))
    (λ _. either_way (Keeps plate) (not (world_scalable k plate.world))
    (λ _. given_back 13 (zero-lt-suc 12))
    (λ _. done-keeps plate _))

-- A preview shows what specs/Shows says: a replacement that is not refused leaves a plate that is
-- worked out from its points, and the solve with it is the solve of demand 2. Assumes nothing.
use Prim.Native.Nat.{ℕ}
use mathlib.Core.Path.{◌≡◌, refl, subst⁻¹}
use mathlib.Core.Bool.{not}
use lib.Dec.{ltb}
use mir.Facts.{T_not-not}
use Rattle.ieee754.proofs.Tests.{either_way}
use Rattle.linalg.specs.Vectors.{all_finite}
use Rattle.orderings.specs.Edges.{edge_vectors, squared_edges}
use Rattle.p3p_common.specs.WorldBasisInverse.{world_basis_inverse}
use Rattle.lambdatwist.specs.Solve.{solve}
use Rattle.plates.specs.Target.{with_target}
use Rattle.plates.specs.Plate.{with_basis, plate_of}
use Rattle.plates.specs.Outcome.{done}
use Rattle.plates.specs.Replace.{replace}
use Rattle.plates.proofs.AsSolve.{points-solve}
use Rattle.preview.specs.Preview.{edges_shown, answer_shown, preview}
use Rattle.preview.specs.Shows.{edges_of, Shows, not_finite, no-such-target, moved}
use Rattle.preview.specs.Types.{Vector3, Matrix3, World, Bearings, SquaredEdges, Option, Some}
use Rattle.preview.specs.Types.{None, Plate, Outcome, Shown}

-- what is shown of an outcome
abbrev shown_of : Bearings → Outcome → Shown
shown_of bearings copy = record { answer = answer_shown copy bearings; edges = edges_shown copy }

-- a plate has the edges that it is worked out with
same_edges : (world : World) (edges : SquaredEdges) (basis : Option Matrix3)
    → (with_basis world edges basis).edges ≡ edges
unfolding with_basis
same_edges world edges (Some inverse) = refl
same_edges world edges None = refl

done-shown : (world : World) (bearings : Bearings)
    → shown_of bearings (done world)
    ≡ record { answer = (solve world bearings).value; edges = edges_of world }
unfolding done answer_shown edges_shown plate_of
done-shown world bearings =
    let vectors = (edge_vectors world).value in
    rw (
      points-solve world bearings,
      same_edges world (squared_edges vectors).value
          (world_basis_inverse vectors.d01 vectors.d02).value,
    )

pub preview-shows : (plate : Plate) (number : ℕ) (point : Vector3) (bearings : Bearings)
    → Shows plate number point bearings (preview plate number point bearings)
unfolding preview replace answer_shown edges_shown
preview-shows plate number point bearings =
    let finite = all_finite point in
    let P : Outcome → Type 0 = λ copy. Shows plate number point bearings (shown_of bearings copy) in
    either_way P (not finite)
    (λ h. not_finite h)
    (λ h. either_way P (ltb 2 number)
    (λ above. no-such-target (T_not-not finite h) above)
    (λ below. subst⁻¹ (Shows plate number point bearings)
    (done-shown (with_target plate.world number point) bearings)
    (moved (T_not-not finite h) below _ refl)))

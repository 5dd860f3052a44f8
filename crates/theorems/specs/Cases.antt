-- The cases of document 01, "Checked by hand", that are marked P, in one table: those of the root
-- finders, of the refinement and the rays, and the solves S1 and S2. That they hold is
-- `marked-cases` in the proofs.
use Rattle.std.specs.Prelude.{ℕ, Bool, true, false, ◌&&◌, List, [], ◌∷◌, ◌++◌, map, eqb}
use Rattle.std.specs.Bool.{beq}
use Rattle.ieee754.specs.Literal.{double, has_bits, plus_zero, one, two}
use Rattle.linalg.specs.Vectors.{vector}
use Rattle.polynomial.specs.Cases.{RootCase, root_case_holds, root_cases}
use Rattle.refinement.specs.RefineDepths.{refine_depths}
use Rattle.p3p_common.specs.RayFits.{ray_fits}
use Rattle.frames.specs.Points.{points, rays}
use Rattle.lambdatwist.specs.Solve.{solve}
use Rattle.theorems.specs.Types.{Vector3, World, Bearings, Refined, Answer}

-- a row, numbers by their bit patterns: of the root finders' table; of the refinement, the three
-- depths alike, the three squared edges, the three cosines, the updates allowed, and the depths and
-- the updates that come out; of a ray, the camera point, the bearing, and whether it fits; a frame
-- with the number of its refusal
pub data MarkedCase : Type 0 where
  roots : RootCase → MarkedCase
  refinement : (depth squared_edge cosine iterations after updates : ℕ) → MarkedCase
  ray : (x y z f g h : ℕ) → Bool → MarkedCase
  frame : World → Bearings → ℕ → MarkedCase

-- three equal entries
abbrev pub alike : ℕ → Vector3
alike w = vector (double w) (double w) (double w)

unfoldable pub refined_to : Refined → ℕ → ℕ → Bool
refined_to r w n =
    has_bits r.depths.x w && has_bits r.depths.y w && has_bits r.depths.z w
    && eqb r.updates n

unfoldable pub refused_with : Answer → ℕ → Bool
refused_with a number = eqb a.refusal number && eqb a.count 0

unfoldable pub marked_case_holds : MarkedCase → Bool
marked_case_holds (roots row) = root_case_holds row
marked_case_holds (refinement depth squared_edge cosine iterations after updates) =
    let a = double squared_edge in
    let m = double cosine in
    refined_to
    (refine_depths (alike depth) (record { a01 = a; a02 = a; a12 = a })
    (record { m01 = m; m02 = m; m12 = m }) iterations).value
    after
    updates
marked_case_holds (ray x y z f g h fits) =
    beq (ray_fits (vector (double x) (double y) (double z))
    (vector (double f) (double g) (double h))).value fits
marked_case_holds (frame world bearings number) = refused_with (solve world bearings).value number

unfoldable pub pose_cases : List MarkedCase
pose_cases =
    -- (2, 2, 2), squared edges 2, cosines 0, one update allowed: (1.25, 1.25, 1.25), one update
    refinement 0x4000_0000_0000_0000 0x4000_0000_0000_0000 0 1 0x3ff4_0000_0000_0000 1
    -- from (1, 1, 1): none
    ∷ refinement 0x3ff0_0000_0000_0000 0x4000_0000_0000_0000 0 1 0x3ff0_0000_0000_0000 0
    -- camera (2^-20, 0, 1) fits bearing (0, 0, 1)
    ∷ ray 0x3eb0_0000_0000_0000 0 0x3ff0_0000_0000_0000 0 0 0x3ff0_0000_0000_0000 true
    -- (2^-20 + 2^-72, 0, 1) does not
    ∷ ray 0x3eb0_0000_0000_0001 0 0x3ff0_0000_0000_0000 0 0 0x3ff0_0000_0000_0000 false
    ∷ []

-- the bearings along the axes
abbrev pub axis_rays : Bearings
axis_rays =
    rays (vector one plus_zero plus_zero)
    (vector plus_zero one plus_zero)
    (vector plus_zero plus_zero one)

unfoldable pub solve_cases : List MarkedCase
solve_cases =
    -- S1: world and bearings both (1, 0, 0), (0, 1, 0), (0, 0, 1) give 2
    frame (points (vector one plus_zero plus_zero)
    (vector plus_zero one plus_zero)
    (vector plus_zero plus_zero one)) axis_rays 2
    -- S2: world (0, 0, 0), (1, 0, 0), (2, 0, 0), bearings as S1, give 3
    ∷ frame (points (vector plus_zero plus_zero plus_zero)
    (vector one plus_zero plus_zero)
    (vector two plus_zero plus_zero)) axis_rays 3
    ∷ []

unfoldable pub marked_cases : List MarkedCase
marked_cases = map roots root_cases ++ (pose_cases ++ solve_cases)

-- refine_depths of pose/p3p/common.rs. The test of the residual comes before each update, and none
-- follows the last. The updates are counted.
use Rattle.std.specs.Prelude.{ℕ, zero, suc, ◌+◌, not, ◌||◌, Float, if◌then◌else◌}
use Rattle.std.specs.Float.Ieee.{lt, eq}
use Rattle.std.specs.Float.Ieee.Scale.{finite}
use Rattle.ieee754.specs.Literal.{plus_zero, half, two, ten⁻¹⁰}
use Rattle.ieee754.specs.Maximum.{max}
use Rattle.ieee754.specs.Traced.{Traced, pure, ◌>>=◌, ◌⊗◌, ◌⊕◌, ◌⊖◌, ◌⊘◌, !◌, ⊝◌, with_some}
use Rattle.linalg.specs.Vectors.{vector, abs_sum, all_finite}
use Rattle.refinement.specs.Types.{Vector3, SquaredEdges, Cosines, Refined, Option, Some, None}

-- d0 * d0 - 2.0 * d0 * d1 * m01 + d1 * d1 - a01,
-- d0 * d0 - 2.0 * d0 * d2 * m02 + d2 * d2 - a02,
-- d1 * d1 - 2.0 * d1 * d2 * m12 + d2 * d2 - a12
unfoldable pub depth_residual : Vector3 → SquaredEdges → Cosines → Traced Vector3
depth_residual depths squared_edges bearing_cosines =
    let record { x = d0; y = d1; z = d2 } = depths in
    let record { a01 = a01; a02 = a02; a12 = a12 } = squared_edges in
    let record { m01 = m01; m02 = m02; m12 = m12 } = bearing_cosines in
    do
      r0 ← ! d0 ⊗ ! d0 ⊖ ! two ⊗ ! d0 ⊗ ! d1 ⊗ ! m01 ⊕ ! d1 ⊗ ! d1 ⊖ ! a01
      r1 ← ! d0 ⊗ ! d0 ⊖ ! two ⊗ ! d0 ⊗ ! d2 ⊗ ! m02 ⊕ ! d2 ⊗ ! d2 ⊖ ! a02
      r2 ← ! d1 ⊗ ! d1 ⊖ ! two ⊗ ! d1 ⊗ ! d2 ⊗ ! m12 ⊕ ! d2 ⊗ ! d2 ⊖ ! a12
      pure (vector r0 r1 r2)

-- if candidate.iter().any(|value| !value.is_finite()) { break; } *depths = candidate;
unfoldable pub if_finite : Vector3 → Option Vector3
if_finite candidate = if not (all_finite candidate) then None else Some candidate

-- from `let x11 = d0 - d1 * m01;` to the new depths
unfoldable pub depth_update : Vector3 → Cosines → Vector3 → Traced (Option Vector3)
depth_update depths bearing_cosines residual =
    let record { x = d0; y = d1; z = d2 } = depths in
    let record { m01 = m01; m02 = m02; m12 = m12 } = bearing_cosines in
    let record { x = r0; y = r1; z = r2 } = residual in
    do
      x11 ← ! d0 ⊖ ! d1 ⊗ ! m01
      x12 ← ! d1 ⊖ ! d0 ⊗ ! m01
      x21 ← ! d0 ⊖ ! d2 ⊗ ! m02
      x23 ← ! d2 ⊖ ! d0 ⊗ ! m02
      x32 ← ! d1 ⊖ ! d2 ⊗ ! m12
      x33 ← ! d2 ⊖ ! d1 ⊗ ! m12
      denominator ← ! x11 ⊗ ! x23 ⊗ ! x32 ⊕ ! x12 ⊗ ! x21 ⊗ ! x33
      if not (finite denominator) || eq denominator plus_zero then pure None
          else do
            inverse ← ! half ⊘ ! denominator
            c0 ← ! d0
                ⊕ (⊝ ! x23 ⊗ ! x32 ⊗ ! r0 ⊖ ! x12 ⊗ ! x33 ⊗ ! r1 ⊕ ! x12 ⊗ ! x23 ⊗ ! r2) ⊗ ! inverse
            c1 ← ! d1
                ⊕ (⊝ ! x21 ⊗ ! x33 ⊗ ! r0 ⊕ ! x11 ⊗ ! x33 ⊗ ! r1 ⊖ ! x11 ⊗ ! x23 ⊗ ! r2) ⊗ ! inverse
            c2 ← ! d2
                ⊕ (! x21 ⊗ ! x32 ⊗ ! r0 ⊖ ! x11 ⊗ ! x32 ⊗ ! r1 ⊖ ! x12 ⊗ ! x21 ⊗ ! r2) ⊗ ! inverse
            pure (if_finite (vector c0 c1 c2))

-- one turn of the loop
unfoldable pub depth_step : Vector3 → SquaredEdges → Cosines → Float → Traced (Option Vector3)
depth_step depths squared_edges bearing_cosines residual_tolerance = do
  residual ← depth_residual depths squared_edges bearing_cosines
  residual_norm ← abs_sum residual
  if lt residual_norm residual_tolerance then pure None
      else depth_update depths bearing_cosines residual

-- the loop: at most n turns more, after `updates`
unfoldable pub refine_turns : ℕ → Vector3 → SquaredEdges → Cosines → Float → ℕ → Traced Refined
refine_turns zero depths squared_edges bearing_cosines residual_tolerance updates =
    pure (record { depths = depths; updates = updates })
refine_turns (suc n) depths squared_edges bearing_cosines residual_tolerance updates = do
  step ← depth_step depths squared_edges bearing_cosines residual_tolerance
  with_some step (pure (record { depths = depths; updates = updates })) (λ candidate.
      refine_turns n candidate squared_edges bearing_cosines residual_tolerance (updates + 1))

unfoldable pub refine_depths : Vector3 → SquaredEdges → Cosines → ℕ → Traced Refined
refine_depths depths squared_edges bearing_cosines iterations = do
  -- let residual_tolerance = 1e-10 * a01.max(a02).max(a12);
  let record { a01 = a01; a02 = a02; a12 = a12 } = squared_edges
  residual_tolerance ← ! ten⁻¹⁰ ⊗ ! max (max a01 a02) a12
  refine_turns iterations depths squared_edges bearing_cosines residual_tolerance 0

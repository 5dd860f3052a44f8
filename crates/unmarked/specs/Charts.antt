-- The two charts of `solve_ordered` (lambdatwist.rs): from the null vector of one sign to at most
-- two depth candidates, one for each root of the chart's quadratic. Where the quadratic refuses,
-- only that sign's turn ends. Without marks.
use Rattle.std.specs.Prelude.{◌||◌, Float, if◌then◌else◌}
use Rattle.std.specs.Float.Ieee.{lt, le}
use Rattle.ieee754.specs.Literal.{plus_zero, one, two}
use Rattle.ieee754.specs.Magnitude.{abs}
use Rattle.ieee754.specs.Traced.{Traced, pure, ◌>>=◌, ◌⊗◌, ◌⊕◌, ◌⊖◌, ◌⊘◌, !◌, ⊝◌, √◌}
use Rattle.linalg.specs.Vectors.{vector}
use Rattle.depths.specs.Charts.{no_divisor}
use Rattle.unmarked.specs.Quadratic.{with_pair, quadratic_real_monic}
use Rattle.unmarked.specs.DepthSlots.{push_if_positive}
use Rattle.unmarked.specs.Types.{Vector3, SquaredEdges, Roots, Factors, Candidates}

-- for tau in roots { .. }, whose body is `turn`
unfoldable pub for_roots : Roots → (Candidates → Float → Traced Candidates) → Candidates
    → Traced Candidates
for_roots roots turn found =
    with_pair roots (pure found) (λ first second. do
      once ← turn found first
      turn once second)

-- ---- the chart for u0.abs() < u1.abs(): the depths of a root, then the chart
unfoldable pub first_chart_depths : SquaredEdges → Factors → Vector3 → Candidates → Float
    → Traced Candidates
first_chart_depths squares factors null_vector found tau =
    let record { x = u0; y = u1; z = u2 } = null_vector in
    do
      -- let depth_denominator = tau * (tau + b02) + 1.0;
      depth_denominator ← ! tau ⊗ (! tau ⊕ ! factors.b02) ⊕ ! one
      if le tau plus_zero || le depth_denominator plus_zero then pure found
          else do
            -- let depth0 = (a02 / depth_denominator).sqrt();
            depth0 ← √ (! squares.a02 ⊘ ! depth_denominator)
            -- let depth2 = tau * depth0;
            depth2 ← ! tau ⊗ ! depth0
            -- let depth1 = -(u0 * depth0 + u2 * depth2) / u1;
            depth1 ← ⊝ (! u0 ⊗ ! depth0 ⊕ ! u2 ⊗ ! depth2) ⊘ ! u1
            pure (push_if_positive found depth1 (vector depth0 depth1 depth2))

unfoldable pub first_chart : SquaredEdges → Factors → Vector3 → Candidates → Traced Candidates
first_chart squares factors null_vector found =
    let record { a01 = a01; a02 = a02; a12 = a12 } = squares in
    let record { b01 = b01; b02 = b02; b12 = b12 } = factors in
    let record { x = u0; y = u1; z = u2 } = null_vector in
    do
      -- let denominator = (a12 - a01) * u2 * u2 - a01 * u1 * u1 + a01 * b12 * u1 * u2;
      denominator ← (! a12 ⊖ ! a01) ⊗ ! u2 ⊗ ! u2 ⊖ ! a01 ⊗ ! u1 ⊗ ! u1
          ⊕ ! a01 ⊗ ! b12 ⊗ ! u1 ⊗ ! u2
      if no_divisor denominator then pure found
          else do
            -- (2.0 * (a12 - a01) * u0 * u2 + a01 * b12 * u0 * u1 - a12 * b01 * u1 * u2)
            --     / denominator
            quadratic_b ← (! two ⊗ (! a12 ⊖ ! a01) ⊗ ! u0 ⊗ ! u2 ⊕ ! a01 ⊗ ! b12 ⊗ ! u0 ⊗ ! u1
                ⊖ ! a12 ⊗ ! b01 ⊗ ! u1 ⊗ ! u2) ⊘ ! denominator
            -- ((a12 - a01) * u0 * u0 + a12 * u1 * u1 - a12 * b01 * u0 * u1) / denominator
            quadratic_c ← ((! a12 ⊖ ! a01) ⊗ ! u0 ⊗ ! u0 ⊕ ! a12 ⊗ ! u1 ⊗ ! u1
                ⊖ ! a12 ⊗ ! b01 ⊗ ! u0 ⊗ ! u1) ⊘ ! denominator
            roots ← quadratic_real_monic quadratic_b quadratic_c
            for_roots roots (first_chart_depths squares factors null_vector) found

-- ---- the other chart: the depths of a root, the chart from w0 and w1 on, and the chart
unfoldable pub second_chart_depths : SquaredEdges → Factors → Float → Float → Candidates → Float
    → Traced Candidates
second_chart_depths squares factors w0 w1 found tau = do
  -- let depth_denominator = tau * (b12 + tau) + 1.0;
  depth_denominator ← ! tau ⊗ (! factors.b12 ⊕ ! tau) ⊕ ! one
  if le tau plus_zero || le depth_denominator plus_zero then pure found
      else do
        -- let depth1 = (a12 / depth_denominator).sqrt();
        depth1 ← √ (! squares.a12 ⊘ ! depth_denominator)
        -- let depth2 = tau * depth1;
        depth2 ← ! tau ⊗ ! depth1
        -- let depth0 = w0 * depth1 + w1 * depth2;
        depth0 ← ! w0 ⊗ ! depth1 ⊕ ! w1 ⊗ ! depth2
        pure (push_if_positive found depth0 (vector depth0 depth1 depth2))

unfoldable pub weight_chart : SquaredEdges → Factors → Float → Float → Candidates → Traced Candidates
weight_chart squares factors w0 w1 found =
    let record { a01 = a01; a02 = a02; a12 = a12 } = squares in
    let record { b01 = b01; b02 = b02; b12 = b12 } = factors in
    do
      -- let denominator = (a02 - a01) * w1 * w1 - a01 * b02 * w1 - a01;
      denominator ← (! a02 ⊖ ! a01) ⊗ ! w1 ⊗ ! w1 ⊖ ! a01 ⊗ ! b02 ⊗ ! w1 ⊖ ! a01
      if no_divisor denominator then pure found
          else do
            -- (a02 * b01 * w1 - a01 * b02 * w0 - 2.0 * w0 * w1 * (a01 - a02)) / denominator
            quadratic_b ← (! a02 ⊗ ! b01 ⊗ ! w1 ⊖ ! a01 ⊗ ! b02 ⊗ ! w0
                ⊖ ! two ⊗ ! w0 ⊗ ! w1 ⊗ (! a01 ⊖ ! a02)) ⊘ ! denominator
            -- ((a02 - a01) * w0 * w0 + a02 * b01 * w0 + a02) / denominator
            quadratic_c ← ((! a02 ⊖ ! a01) ⊗ ! w0 ⊗ ! w0 ⊕ ! a02 ⊗ ! b01 ⊗ ! w0 ⊕ ! a02)
                ⊘ ! denominator
            roots ← quadratic_real_monic quadratic_b quadratic_c
            for_roots roots (second_chart_depths squares factors w0 w1) found

unfoldable pub second_chart : SquaredEdges → Factors → Vector3 → Candidates → Traced Candidates
second_chart squares factors null_vector found =
    let record { x = u0; y = u1; z = u2 } = null_vector in
    if no_divisor u0 then pure found
    else do
      -- let inverse = -u0.recip();
      inverse ← ⊝ (! one ⊘ ! u0)
      -- let w0 = u1 * inverse;
      -- let w1 = u2 * inverse;
      w0 ← ! u1 ⊗ ! inverse
      w1 ← ! u2 ⊗ ! inverse
      weight_chart squares factors w0 w1 found

-- if u0.abs() < u1.abs() { .. } else { .. }
unfoldable pub chart : SquaredEdges → Factors → Vector3 → Candidates → Traced Candidates
chart squares factors null_vector found =
    if lt (abs null_vector.x) (abs null_vector.y)
    then first_chart squares factors null_vector found
    else second_chart squares factors null_vector found

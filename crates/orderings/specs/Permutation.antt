-- The choice of `solve_best_conditioned_permutation` (lambdatwist.rs): of the five other orderings
-- of the points, the one whose leading coefficient is the largest beside the others. A later one
-- replaces the best only if its condition is greater, so a NaN in the first stays.
use Rattle.std.specs.Prelude.{List, [], ◌∷◌, Float, if◌then◌else◌}
use Rattle.std.specs.Float.Ieee.{lt}
use Rattle.ieee754.specs.Traced.{Traced, pure, ◌>>=◌}
use Rattle.frames.specs.Points.{points, rays}
use Rattle.orderings.specs.Condition.{leading_cubic_condition}
use Rattle.orderings.specs.Types.{Vector3, P3pInput, Conditioned}

-- permutation.map(|index| input.world[index]) and of the bearings, by the three points and the
-- three bearings in their new order
unfoldable pub with_condition : Vector3 → Vector3 → Vector3 → Vector3 → Vector3 → Vector3
    → Traced Conditioned
with_condition p0 p1 p2 f0 f1 f2 =
    let world = points p0 p1 p2 in
    let bearings = rays f0 f1 f2 in
    do
      condition ← leading_cubic_condition world bearings
      pure (record { condition = condition; world = world; bearings = bearings })

-- condition > *best_condition, of two that have a condition
unfoldable pub better : {A : Type 0} → (A → Float) → A → A → A
better condition best next = if lt (condition best) (condition next) then next else best

-- the best of a first and those that follow it
unfoldable pub best_of : {A : Type 0} → (A → Float) → A → List A → A
best_of condition best [] = best
best_of condition best (next ∷ rest) = best_of condition (better condition best next) rest

-- for permutation in [[0, 2, 1], [1, 0, 2], [1, 2, 0], [2, 0, 1], [2, 1, 0]] { .. }
unfoldable pub best_permutation : P3pInput → Traced Conditioned
best_permutation input =
    let record { p0 = p0; p1 = p1; p2 = p2 } = input.world in
    let record { f0 = f0; f1 = f1; f2 = f2 } = input.bearings in
    do
      c021 ← with_condition p0 p2 p1 f0 f2 f1
      c102 ← with_condition p1 p0 p2 f1 f0 f2
      c120 ← with_condition p1 p2 p0 f1 f2 f0
      c201 ← with_condition p2 p0 p1 f2 f0 f1
      c210 ← with_condition p2 p1 p0 f2 f1 f0
      pure (best_of (λ c. c.condition) c021 (c102 ∷ c120 ∷ c201 ∷ c210 ∷ []))

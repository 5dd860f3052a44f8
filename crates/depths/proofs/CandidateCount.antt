-- The depth candidates of a root are at most four: one more is stored only where there is room.
-- Assumes nothing.
use Rattle.std.specs.Prelude.{if◌then◌else◌}
use Prim.Native.Nat.{◌≤◌}
use mathlib.Core.Bool.{Bool, ◌&&◌, ◌||◌}
use native.Mathlib.Omega.{arith}
use lib.Dec.{ltb, ltb→lt}
use lib.Ieee.{Float, lt, le, neg}
use lib.Ieee.Fits.{and_r}
use Rattle.ieee754.specs.Literal.{plus_zero}
use Rattle.ieee754.specs.Magnitude.{abs}
use Rattle.ieee754.specs.Traced.{Traced, pure, ◌>>=◌, with_some}
use Rattle.ieee754.proofs.Tests.{either_way}
use Rattle.polynomial.specs.Answer.{pair_of}
use Rattle.depths.specs.DepthSlots.{no_candidates, push_if_positive}
use Rattle.depths.specs.Charts.{for_roots, no_divisor, first_chart_depths, first_chart}
use Rattle.depths.specs.Charts.{second_chart_depths, weight_chart, second_chart, chart}
use Rattle.depths.specs.Signs.{sign_turn, candidates}
use Rattle.depths.specs.Types.{Vector3, Matrix3, SquaredEdges, Roots, Factors, Candidates}
use Rattle.depths.specs.Types.{RootPair, Option, Some, None}

abbrev Few : Candidates → Type 0
Few found = found.count ≤ 4

abbrev GivesFew : Traced Candidates → Type 0
GivesFew m = Few m.value

module _ (found : Candidates) (few : Few found) where
  unless : (test : Bool) (m : Traced Candidates)
      → GivesFew m
      → GivesFew (if test then pure found else m)
  unless test m h = either_way GivesFew test (λ _. few) (λ _. h)

  push_if_positive-few : (depth : Float) (depths : Vector3) (lifted : Bool)
      → Few (push_if_positive found depth depths lifted)
  unfolding push_if_positive
  push_if_positive-few depth depths lifted =
      let positive = lt plus_zero depth in
      let free = ltb found.count 4 in
      either_way Few (positive && free)
      (λ both. omega (arith, ltb→lt found.count 4 (and_r positive free both)))
      (λ _. few)

  for_roots-few : (roots : Roots) (turn : Bool → Candidates → Float → Traced Candidates)
      → ((lifted : Bool) (c : Candidates) → Few c → (tau : Float) → Few (turn lifted c tau).value)
      → Few (for_roots roots turn found).value
  unfolding for_roots
  for_roots-few roots turn each = go (pair_of roots)
    where
      go : (pair : Option RootPair)
          → Few (with_some pair (pure found) (λ pair. do
            once ← turn pair.lifted found pair.first
            turn pair.lifted once pair.second)).value
      go (Some pair) =
          each pair.lifted _ (each pair.lifted found few pair.first) pair.second
      go None = few

module _ (squares : SquaredEdges) (factors : Factors) where
  -- ---- the chart for u0.abs() < u1.abs()
  first_chart_depths-few : (null_vector : Vector3) (lifted : Bool) (found : Candidates)
      → Few found
      → (tau : Float)
      → Few (first_chart_depths squares factors null_vector lifted found tau).value
  unfolding first_chart_depths
  first_chart_depths-few null_vector lifted found few tau =
      unless found few (le tau plus_zero || le _ plus_zero) _
      (push_if_positive-few found few _ _ lifted)

  first_chart-few : (null_vector : Vector3) (found : Candidates)
      → Few found
      → Few (first_chart squares factors null_vector found).value
  unfolding first_chart
  first_chart-few null_vector found few =
      unless found few (no_divisor _) _
      (for_roots-few found few _ _ (first_chart_depths-few null_vector))

  -- ---- the other chart
  second_chart_depths-few : (w0 w1 : Float) (lifted : Bool) (found : Candidates)
      → Few found
      → (tau : Float)
      → Few (second_chart_depths squares factors w0 w1 lifted found tau).value
  unfolding second_chart_depths
  second_chart_depths-few w0 w1 lifted found few tau =
      unless found few (le tau plus_zero || le _ plus_zero) _
      (push_if_positive-few found few _ _ lifted)

  weight_chart-few : (w0 w1 : Float) (found : Candidates)
      → Few found
      → Few (weight_chart squares factors w0 w1 found).value
  unfolding weight_chart
  weight_chart-few w0 w1 found few =
      unless found few (no_divisor _) _
      (for_roots-few found few _ _ (second_chart_depths-few w0 w1))

  second_chart-few : (null_vector : Vector3) (found : Candidates)
      → Few found
      → Few (second_chart squares factors null_vector found).value
  unfolding second_chart
  second_chart-few null_vector found few =
      unless found few (no_divisor _) _ (weight_chart-few _ _ found few)

  -- ---- either chart, a sign's turn, and both signs
  sign_turn-few : (eigenvectors : Matrix3) (sign : Float) (found : Candidates)
      → Few found
      → Few (sign_turn squares factors eigenvectors sign found).value
  unfolding sign_turn chart
  sign_turn-few eigenvectors sign found few =
      either_way GivesFew (lt (abs _) (abs _)) (λ _. first_chart-few _ found few)
      (λ _. second_chart-few _ found few)

  pub candidates-count : (eigenvectors : Matrix3) (ratio : Float) (lifted : Bool)
      → (candidates squares factors eigenvectors ratio lifted).value.count ≤ 4
  unfolding candidates no_candidates
  candidates-count eigenvectors ratio lifted =
      sign_turn-few eigenvectors (neg ratio) _
      (sign_turn-few eigenvectors ratio (no_candidates lifted) (omega arith))

-- The depth candidates: as many, and of the same depths in the same order, where they are marked
-- and where they are not. Assumes nothing.
use Rattle.std.proofs.Common.{◌≡◌, ℕ, ◌+◌, Bool, ◌&&◌, ◌||◌, ltb, List, map, set, refl, ap, ◌∙◌}
use Rattle.std.proofs.lemmas.List.{map-set}
use lib.Ieee.{Float, neg, lt, le}
use Rattle.ieee754.specs.Literal.{plus_zero, one, two}
use Rattle.ieee754.specs.Magnitude.{abs}
use Rattle.ieee754.specs.Traced.{Traced, ◌⊗◌, ◌⊕◌, ◌⊖◌, ◌⊘◌, !◌, ⊝◌, √◌}
use Rattle.linalg.specs.Vectors.{vector, vec_sub, vec_mul}
use Rattle.linalg.specs.Matrices.{column0, column1}
use Rattle.depths.specs.DepthSlots.{no_candidates, candidate, push_if_positive}
use Rattle.depths.specs.Charts.{for_roots, no_divisor, first_chart_depths, first_chart}
use Rattle.depths.specs.Charts.{second_chart_depths, weight_chart, second_chart, chart}
use Rattle.depths.specs.Signs.{sign_turn, candidates}
use Rattle.depths.specs.declared.candidates.Candidate.{Candidate}
use Rattle.depths.specs.declared.candidates.Candidates.{Candidates}
use Rattle.polynomial.specs.declared.Roots.{Roots}
use Rattle.unmarked.specs.DepthSlots as before-slots
use Rattle.unmarked.specs.Charts as before
use Rattle.unmarked.specs.Signs as before-signs
use Rattle.unmarked.specs.Types as unmarked
use Rattle.unmarked.specs.Types.{Vector3, Matrix3, SquaredEdges, Factors}
use Rattle.unmarked.proofs.Forgets.{Forgets, choose, pure, if◌then◌else◌, ◌>>=◌, ◌>>≡◌}
use Rattle.unmarked.proofs.Quadratic.{SameRoots, with_pair-forgets}
use Rattle.unmarked.proofs.Quadratic.{quadratic_real_monic-forgets}

abbrev pub depths_of : List Candidate → List Vector3
depths_of slots = map (λ (c : Candidate). c.depths) slots

pub record SameCandidates (c : Candidates) (c' : unmarked.Candidates) : Type 0 where
  pub count : c.count ≡ c'.count
  pub depths : depths_of c.slots ≡ c'.depths

-- ---- the slots
no_candidates-forgets : (lifted : Bool)
    → SameCandidates (no_candidates lifted) before-slots.no_candidates
unfolding no_candidates before-slots.no_candidates
no_candidates-forgets lifted = record { count = refl; depths = refl }

module _ {c : Candidates} {c' : unmarked.Candidates} (C : SameCandidates c c') where
  push_if_positive-forgets : (depth : Float) (v : Vector3) (lifted : Bool)
      → SameCandidates (push_if_positive c depth v lifted) (before-slots.push_if_positive c' depth v)
  unfolding push_if_positive before-slots.push_if_positive candidate
  push_if_positive-forgets depth v lifted =
      choose SameCandidates (ap (λ (n : ℕ). lt plus_zero depth && ltb n 4) C.count)
      (record {
        count = ap (λ (n : ℕ). n + 1) C.count;
        depths = map-set (λ (x : Candidate). x.depths) c.slots c.count (candidate c v lifted)
            ∙ λ i. set (C.depths i) (C.count i) v;
      })
      C

-- what a turn does to candidates that are alike, lifted or not
abbrev Turns : (Bool → Candidates → Float → Traced Candidates)
    → (unmarked.Candidates → Float → Traced unmarked.Candidates)
    → Type 0
Turns turn turn' =
    (lifted : Bool) (c : Candidates) (c' : unmarked.Candidates) (tau : Float)
    → SameCandidates c c'
    → Forgets SameCandidates (turn lifted c tau) (turn' c' tau)

for_roots-forgets : {r : Roots} {r' : unmarked.Roots}
    {turn : Bool → Candidates → Float → Traced Candidates}
    {turn' : unmarked.Candidates → Float → Traced unmarked.Candidates} {c : Candidates}
    {c' : unmarked.Candidates}
    → SameRoots r r'
    → Turns turn turn'
    → SameCandidates c c'
    → Forgets SameCandidates (for_roots r turn c) (before.for_roots r' turn' c')
unfolding for_roots before.for_roots
for_roots-forgets roots turn found =
    with_pair-forgets _ roots (pure found) (λ first second lifted.
    turn lifted _ _ first found >>= λ _ _ once.
    turn lifted _ _ second once)

module _ (squares : SquaredEdges) (factors : Factors) where
  -- ---- the chart for u0.abs() < u1.abs()
  module _ (null_vector : Vector3) where
    first_chart_depths-forgets
        : Turns
        (first_chart_depths squares factors null_vector)
        (before.first_chart_depths squares factors null_vector)
    unfolding first_chart_depths before.first_chart_depths
    first_chart_depths-forgets lifted _ _ tau found =
        let record { x = u0; y = u1; z = u2 } = null_vector in
        ! tau ⊗ (! tau ⊕ ! factors.b02) ⊕ ! one >>≡ λ depth_denominator.
        if le tau plus_zero || le depth_denominator plus_zero then pure found
        else (
        √ (! squares.a02 ⊘ ! depth_denominator) >>≡ λ depth0.
        ! tau ⊗ ! depth0 >>≡ λ depth2.
        ⊝ (! u0 ⊗ ! depth0 ⊕ ! u2 ⊗ ! depth2) ⊘ ! u1 >>≡ λ depth1.
        pure (push_if_positive-forgets found depth1 (vector depth0 depth1 depth2) lifted))

    first_chart-forgets : {c : Candidates} {c' : unmarked.Candidates}
        → SameCandidates c c'
        → Forgets SameCandidates
        (first_chart squares factors null_vector c)
        (before.first_chart squares factors null_vector c')
    unfolding first_chart before.first_chart
    first_chart-forgets found =
        let record { a01 = a01; a02 = a02; a12 = a12 } = squares in
        let record { b01 = b01; b02 = b02; b12 = b12 } = factors in
        let record { x = u0; y = u1; z = u2 } = null_vector in
        (! a12 ⊖ ! a01) ⊗ ! u2 ⊗ ! u2 ⊖ ! a01 ⊗ ! u1 ⊗ ! u1 ⊕ ! a01 ⊗ ! b12 ⊗ ! u1 ⊗ ! u2 >>≡
        λ denominator.
        if no_divisor denominator then pure found
        else (
        (! two ⊗ (! a12 ⊖ ! a01) ⊗ ! u0 ⊗ ! u2 ⊕ ! a01 ⊗ ! b12 ⊗ ! u0 ⊗ ! u1
        ⊖ ! a12 ⊗ ! b01 ⊗ ! u1 ⊗ ! u2) ⊘ ! denominator >>≡ λ quadratic_b.
        ((! a12 ⊖ ! a01) ⊗ ! u0 ⊗ ! u0 ⊕ ! a12 ⊗ ! u1 ⊗ ! u1 ⊖ ! a12 ⊗ ! b01 ⊗ ! u0 ⊗ ! u1)
        ⊘ ! denominator >>≡ λ quadratic_c.
        quadratic_real_monic-forgets quadratic_b quadratic_c >>= λ _ _ roots.
        for_roots-forgets roots first_chart_depths-forgets found)

  -- ---- the other chart
  module _ (w0 w1 : Float) where
    second_chart_depths-forgets
        : Turns
        (second_chart_depths squares factors w0 w1)
        (before.second_chart_depths squares factors w0 w1)
    unfolding second_chart_depths before.second_chart_depths
    second_chart_depths-forgets lifted _ _ tau found =
        ! tau ⊗ (! factors.b12 ⊕ ! tau) ⊕ ! one >>≡ λ depth_denominator.
        if le tau plus_zero || le depth_denominator plus_zero then pure found
        else (
        √ (! squares.a12 ⊘ ! depth_denominator) >>≡ λ depth1.
        ! tau ⊗ ! depth1 >>≡ λ depth2.
        ! w0 ⊗ ! depth1 ⊕ ! w1 ⊗ ! depth2 >>≡ λ depth0.
        pure (push_if_positive-forgets found depth0 (vector depth0 depth1 depth2) lifted))

    weight_chart-forgets : {c : Candidates} {c' : unmarked.Candidates}
        → SameCandidates c c'
        → Forgets SameCandidates
        (weight_chart squares factors w0 w1 c)
        (before.weight_chart squares factors w0 w1 c')
    unfolding weight_chart before.weight_chart
    weight_chart-forgets found =
        let record { a01 = a01; a02 = a02; a12 = a12 } = squares in
        let record { b01 = b01; b02 = b02; b12 = b12 } = factors in
        (! a02 ⊖ ! a01) ⊗ ! w1 ⊗ ! w1 ⊖ ! a01 ⊗ ! b02 ⊗ ! w1 ⊖ ! a01 >>≡ λ denominator.
        if no_divisor denominator then pure found
        else (
        (! a02 ⊗ ! b01 ⊗ ! w1 ⊖ ! a01 ⊗ ! b02 ⊗ ! w0 ⊖ ! two ⊗ ! w0 ⊗ ! w1 ⊗ (! a01 ⊖ ! a02))
        ⊘ ! denominator >>≡ λ quadratic_b.
        ((! a02 ⊖ ! a01) ⊗ ! w0 ⊗ ! w0 ⊕ ! a02 ⊗ ! b01 ⊗ ! w0 ⊕ ! a02) ⊘ ! denominator >>≡
        λ quadratic_c.
        quadratic_real_monic-forgets quadratic_b quadratic_c >>= λ _ _ roots.
        for_roots-forgets roots second_chart_depths-forgets found)

  module _ (null_vector : Vector3) {c : Candidates} {c' : unmarked.Candidates}
      (found : SameCandidates c c') where
    second_chart-forgets
        : Forgets SameCandidates
        (second_chart squares factors null_vector c)
        (before.second_chart squares factors null_vector c')
    unfolding second_chart before.second_chart
    second_chart-forgets =
        if no_divisor null_vector.x then pure found
        else (
        ⊝ (! one ⊘ ! null_vector.x) >>≡ λ inverse.
        ! null_vector.y ⊗ ! inverse >>≡ λ w0.
        ! null_vector.z ⊗ ! inverse >>≡ λ w1.
        weight_chart-forgets w0 w1 found)

    chart-forgets
        : Forgets SameCandidates
        (chart squares factors null_vector c)
        (before.chart squares factors null_vector c')
    unfolding chart before.chart
    chart-forgets =
        if lt (abs null_vector.x) (abs null_vector.y) then first_chart-forgets null_vector found
        else second_chart-forgets

  -- ---- either sign
  module _ (eigenvectors : Matrix3) where
    sign_turn-forgets : (sign : Float) {c : Candidates} {c' : unmarked.Candidates}
        → SameCandidates c c'
        → Forgets SameCandidates
        (sign_turn squares factors eigenvectors sign c)
        (before-signs.sign_turn squares factors eigenvectors sign c')
    unfolding sign_turn before-signs.sign_turn
    sign_turn-forgets sign found =
        vec_mul (column1 eigenvectors) sign >>≡ λ scaled.
        vec_sub (column0 eigenvectors) scaled >>≡ λ null_vector.
        chart-forgets null_vector found

    pub candidates-forgets : (ratio : Float) (lifted : Bool)
        → Forgets SameCandidates
        (candidates squares factors eigenvectors ratio lifted)
        (before-signs.candidates squares factors eigenvectors ratio)
    unfolding candidates before-signs.candidates
    candidates-forgets ratio lifted =
        sign_turn-forgets ratio (no_candidates-forgets lifted) >>= λ _ _ once.
        sign_turn-forgets (neg ratio) once

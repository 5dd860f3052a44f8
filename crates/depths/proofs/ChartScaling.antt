-- The charts: their quadratics have their coefficients at degree 0, and the depth candidates are at
-- degree 1, as many in both runs and with the same marks. Assumes nothing.
use mathlib.Core.Path.{◌≡◌, refl, ap, ap₂}
use mathlib.Core.Bool.{Bool, not, ◌&&◌, ◌||◌}
use mathlib.Core.List.{Forall₂}
use Prim.Native.Nat.{ℕ, ◌+◌}
use lib.Dec.{ltb}
use lib.IntN.{ℤ, pos}
use lib.Ieee.{Float, lt}
use Rattle.ieee754.specs.Literal.{one, two}
use Rattle.ieee754.specs.Magnitude.{abs}
use Rattle.ieee754.specs.Traced.{Traced}
use Rattle.ieee754.specs.Traced as traced
use Rattle.ieee754.specs.Scaling.{Both, At}
use Rattle.ieee754_laws.proofs.Degrees.{same, null, !◌, ⊝◌, √◌, ◌⊗◌, ◌⊘◌, ◌⊕◌, ◌⊖◌, pure, ◌>>=◌}
use Rattle.ieee754_laws.proofs.Degrees.{◌>>≡◌, if◌then◌else◌, choose, lt_same, le_same, eq-same}
use Rattle.ieee754_laws.proofs.Degrees.{finite-same, equal, with_some}
use Rattle.frames.proofs.Entries.{set-entries, four-entries}
use Rattle.linalg.specs.VectorScaling.{AtVector}
use Rattle.linalg.proofs.VectorDegrees.{null-vector}
use Rattle.frames.specs.FrameScaling.{AtSquaredEdges}
use Rattle.polynomial.specs.RootScaling.{AtRoots, AtPair, pair-at}
use Rattle.polynomial.proofs.RootScaling.{pair_of-at}
use Rattle.polynomial.proofs.QuadraticScaling.{quadratic-scales}
use Rattle.depths.specs.DepthSlots.{no_candidates, candidate, push_if_positive}
use Rattle.depths.specs.Charts.{for_roots, no_divisor, first_chart_depths, first_chart}
use Rattle.depths.specs.Charts.{second_chart_depths, weight_chart, second_chart, chart}
use Rattle.depths.specs.Types.{Vector3, SquaredEdges, Roots, RootPair, Factors}
use Rattle.depths.specs.Types.{Candidate, Candidates}

pub record AtCandidate (k : ℤ) (c c' : Candidate) : Type 0 where
  pub depths : AtVector k (pos 1) c.depths c'.depths
  pub lifted : c.lifted ≡ c'.lifted

pub record AtCandidates (k : ℤ) (c c' : Candidates) : Type 0 where
  pub lifted : c.lifted ≡ c'.lifted
  pub count : c.count ≡ c'.count
  pub slots : Forall₂ (AtCandidate k) c.slots c'.slots

module _ {k : ℤ} where
  -- ---- the slots
  pub no_candidates-at : (lifted : Bool)
      → AtCandidates k (no_candidates lifted) (no_candidates lifted)
  unfolding no_candidates
  no_candidates-at lifted = record {
    lifted = refl;
    count = refl;
    slots = four-entries (record { depths = null-vector; lifted = refl });
  }

  candidate-at : {c c' : Candidates} {v v' : Vector3} (lifted : Bool)
      → AtCandidates k c c'
      → AtVector k (pos 1) v v'
      → AtCandidate k (candidate c v lifted) (candidate c' v' lifted)
  unfolding candidate
  candidate-at lifted found depths = record {
    depths = depths;
    lifted = ap (λ (b : Bool). b || lifted) found.lifted;
  }

  push_if_positive-at : {c c' : Candidates} {d d' : Float} {v v' : Vector3} (lifted : Bool)
      → AtCandidates k c c'
      → At k (pos 1) d d'
      → AtVector k (pos 1) v v'
      → AtCandidates k (push_if_positive c d v lifted) (push_if_positive c' d' v' lifted)
  unfolding push_if_positive
  push_if_positive-at lifted found depth depths =
      choose (AtCandidates k)
      (ap₂ ◌&&◌ (lt_same null depth) (ap (λ (n : ℕ). ltb n 4) found.count))
      (record {
        lifted = found.lifted;
        count = ap (λ (n : ℕ). n + 1) found.count;
        slots = set-entries found.count found.slots (candidate-at lifted found depths);
      })
      found

  for_roots-scales : {r r' : Roots} {turn turn' : Bool → Candidates → Float → Traced Candidates}
      {c c' : Candidates}
      → AtRoots k (pos 0) r r'
      → ((lifted : Bool) (c c' : Candidates) (t t' : Float) → AtCandidates k c c'
      → At k (pos 0) t t'
      → Both (AtCandidates k) (turn lifted c t) (turn' lifted c' t'))
      → AtCandidates k c c'
      → Both (AtCandidates k) (for_roots r turn c) (for_roots r' turn' c')
  unfolding for_roots
  for_roots-scales {turn} {turn'} {c} {c'} roots each found =
      with_some (pair_of-at roots) (pure found) (λ _ _ pair. go pair)
    where
      go : {p p' : RootPair}
          → AtPair k (pos 0) p p'
          → Both (AtCandidates k)
          (traced.◌>>=◌ (turn p.lifted c p.first) (λ once. turn p.lifted once p.second))
          (traced.◌>>=◌ (turn' p'.lifted c' p'.first) (λ once. turn' p'.lifted once p'.second))
      go (pair-at lifted first second) =
          each lifted _ _ _ _ found first >>= λ _ _ once.
          each lifted _ _ _ _ once second

  no_divisor-same : {n : ℤ} {d d' : Float} → At k n d d' → no_divisor d ≡ no_divisor d'
  unfolding no_divisor
  no_divisor-same d = ap₂ (λ (a b : Bool). a || not b) (eq-same d null) (finite-same d)

  module _ {e e' : SquaredEdges} (factors : Factors) (E : AtSquaredEdges k e e') where
    -- ---- the chart for u0.abs() < u1.abs()
    module _ (null_vector : Vector3) where
      first_chart_depths-scales : (lifted : Bool) (c c' : Candidates) (t t' : Float)
          → AtCandidates k c c'
          → At k (pos 0) t t'
          → Both (AtCandidates k)
          (first_chart_depths e factors null_vector lifted c t)
          (first_chart_depths e' factors null_vector lifted c' t')
      unfolding first_chart_depths
      first_chart_depths-scales lifted _ _ _ _ found tau =
          let u0 = same null_vector.x in
          let u1 = same null_vector.y in
          let u2 = same null_vector.z in
          ! tau ⊗ (! tau ⊕ ! same factors.b02) ⊕ ! same one >>= λ _ _ depth_denominator.
          if ap₂ ◌||◌ (le_same tau null) (le_same depth_denominator null) then pure found
          else (
          √◌ {n = pos 1} (! E.a02 ⊘ ! depth_denominator) >>= λ _ _ depth0.
          ! tau ⊗ ! depth0 >>= λ _ _ depth2.
          ⊝ (! u0 ⊗ ! depth0 ⊕ ! u2 ⊗ ! depth2) ⊘ ! u1 >>= λ _ _ depth1.
          pure (push_if_positive-at lifted found depth1 (record { x = depth0; y = depth1; z = depth2 })))

      first_chart-scales : {c c' : Candidates}
          → AtCandidates k c c'
          → Both (AtCandidates k)
          (first_chart e factors null_vector c)
          (first_chart e' factors null_vector c')
      unfolding first_chart
      first_chart-scales found =
          let a01 = E.a01 in
          let a12 = E.a12 in
          let b01 = same factors.b01 in
          let b12 = same factors.b12 in
          let u0 = same null_vector.x in
          let u1 = same null_vector.y in
          let u2 = same null_vector.z in
          (! a12 ⊖ ! a01) ⊗ ! u2 ⊗ ! u2 ⊖ ! a01 ⊗ ! u1 ⊗ ! u1 ⊕ ! a01 ⊗ ! b12 ⊗ ! u1 ⊗ ! u2 >>=
          λ _ _ denominator.
          if no_divisor-same denominator then pure found
          else (
          (! same two ⊗ (! a12 ⊖ ! a01) ⊗ ! u0 ⊗ ! u2 ⊕ ! a01 ⊗ ! b12 ⊗ ! u0 ⊗ ! u1
          ⊖ ! a12 ⊗ ! b01 ⊗ ! u1 ⊗ ! u2) ⊘ ! denominator >>= λ _ _ quadratic_b.
          ((! a12 ⊖ ! a01) ⊗ ! u0 ⊗ ! u0 ⊕ ! a12 ⊗ ! u1 ⊗ ! u1 ⊖ ! a12 ⊗ ! b01 ⊗ ! u0 ⊗ ! u1)
          ⊘ ! denominator >>= λ _ _ quadratic_c.
          quadratic-scales quadratic_b quadratic_c >>= λ _ _ roots.
          for_roots-scales roots first_chart_depths-scales found)

    -- ---- the other chart
    module _ (w0 w1 : Float) where
      second_chart_depths-scales : (lifted : Bool) (c c' : Candidates) (t t' : Float)
          → AtCandidates k c c'
          → At k (pos 0) t t'
          → Both (AtCandidates k)
          (second_chart_depths e factors w0 w1 lifted c t)
          (second_chart_depths e' factors w0 w1 lifted c' t')
      unfolding second_chart_depths
      second_chart_depths-scales lifted _ _ _ _ found tau =
          ! tau ⊗ (! same factors.b12 ⊕ ! tau) ⊕ ! same one >>= λ _ _ depth_denominator.
          if ap₂ ◌||◌ (le_same tau null) (le_same depth_denominator null) then pure found
          else (
          √◌ {n = pos 1} (! E.a12 ⊘ ! depth_denominator) >>= λ _ _ depth1.
          ! tau ⊗ ! depth1 >>= λ _ _ depth2.
          ! same w0 ⊗ ! depth1 ⊕ ! same w1 ⊗ ! depth2 >>= λ _ _ depth0.
          pure (push_if_positive-at lifted found depth0 (record { x = depth0; y = depth1; z = depth2 })))

      weight_chart-scales : {c c' : Candidates}
          → AtCandidates k c c'
          → Both (AtCandidates k) (weight_chart e factors w0 w1 c) (weight_chart e' factors w0 w1 c')
      unfolding weight_chart
      weight_chart-scales found =
          let a01 = E.a01 in
          let a02 = E.a02 in
          let b01 = same factors.b01 in
          let b02 = same factors.b02 in
          let W0 = same w0 in
          let W1 = same w1 in
          (! a02 ⊖ ! a01) ⊗ ! W1 ⊗ ! W1 ⊖ ! a01 ⊗ ! b02 ⊗ ! W1 ⊖ ! a01 >>= λ _ _ denominator.
          if no_divisor-same denominator then pure found
          else (
          (! a02 ⊗ ! b01 ⊗ ! W1 ⊖ ! a01 ⊗ ! b02 ⊗ ! W0 ⊖ ! same two ⊗ ! W0 ⊗ ! W1 ⊗ (! a01 ⊖ ! a02))
          ⊘ ! denominator >>= λ _ _ quadratic_b.
          ((! a02 ⊖ ! a01) ⊗ ! W0 ⊗ ! W0 ⊕ ! a02 ⊗ ! b01 ⊗ ! W0 ⊕ ! a02) ⊘ ! denominator >>=
          λ _ _ quadratic_c.
          quadratic-scales quadratic_b quadratic_c >>= λ _ _ roots.
          for_roots-scales roots second_chart_depths-scales found)

    module _ (null_vector : Vector3) where
      second_chart-scales : {c c' : Candidates}
          → AtCandidates k c c'
          → Both (AtCandidates k)
          (second_chart e factors null_vector c)
          (second_chart e' factors null_vector c')
      unfolding second_chart
      second_chart-scales found =
          if refl {a = no_divisor null_vector.x} then pure found
          else (
          equal {k = k} (⊝ (! same one ⊘ ! same null_vector.x)) >>≡ λ inverse.
          equal {k = k} (! same null_vector.y ⊗ ! same inverse) >>≡ λ w0.
          equal {k = k} (! same null_vector.z ⊗ ! same inverse) >>≡ λ w1.
          weight_chart-scales w0 w1 found)

      pub chart-scales : {c c' : Candidates}
          → AtCandidates k c c'
          → Both (AtCandidates k) (chart e factors null_vector c) (chart e' factors null_vector c')
      unfolding chart
      chart-scales found =
          if refl {a = lt (abs null_vector.x) (abs null_vector.y)}
          then first_chart-scales null_vector found
          else second_chart-scales found

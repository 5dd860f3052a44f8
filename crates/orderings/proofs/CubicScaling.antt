-- The cubic's coefficients are at degree 4, so whether an ordering is usable, and its condition,
-- are the same in the two runs. Assumes nothing.
use mathlib.Core.Path.{◌≡◌, refl, ap, ap₂}
use mathlib.Core.Bool.{Bool, not, ◌||◌}
use lib.IntN.{ℤ, pos}
use lib.Ieee.{Float}
use Rattle.ieee754.specs.Literal.{two, sixty_four, epsilon}
use Rattle.ieee754.specs.Scaling.{Both, At, Scales}
use Rattle.ieee754_laws.proofs.Degrees.{same, null, !◌, ◌⊗◌, ◌⊘◌, ◌⊕◌, ◌⊖◌, pure, ◌>>=◌, ◌>>≡◌}
use Rattle.ieee754_laws.proofs.Degrees.{if◌then◌else◌, abs-at, max-at, le_same, eq-same}
use Rattle.ieee754_laws.proofs.Degrees.{finite-same, alike, equal}
use Rattle.frames.specs.FrameScaling.{AtWorld, AtSquaredEdges}
use Rattle.orderings.specs.Angles.{cosines, squared_sines}
use Rattle.orderings.specs.Cubic.{cubic_coefficients, coefficient_scale, is_unusable}
use Rattle.orderings.specs.Condition.{folded_scale, leading_share, condition_of_edges}
use Rattle.orderings.specs.Condition.{leading_cubic_condition}
use Rattle.orderings.specs.Types.{World, Bearings, SquaredEdges, SquaredSines, Coefficients}
use Rattle.orderings.proofs.EdgeScaling.{edge_vectors-scales, squared_edges-scales}

pub record AtCoefficients (k : ℤ) (c c' : Coefficients) : Type 0 where
  pub cubic3 : At k (pos 4) c.cubic3 c'.cubic3
  pub cubic2 : At k (pos 4) c.cubic2 c'.cubic2
  pub cubic1 : At k (pos 4) c.cubic1 c'.cubic1
  pub cubic0 : At k (pos 4) c.cubic0 c'.cubic0

module _ {k : ℤ} where
  pub cubic_coefficients-scales : {e e' : SquaredEdges} (sines : SquaredSines)
      → AtSquaredEdges k e e'
      → Both (AtCoefficients k) (cubic_coefficients e sines) (cubic_coefficients e' sines)
  unfolding cubic_coefficients
  cubic_coefficients-scales sines e =
      let a01 = e.a01 in
      let a02 = e.a02 in
      let a12 = e.a12 in
      let triple = same sines.triple in
      let s20 = same sines.s20 in
      let s12 = same sines.s12 in
      let s01 = same sines.s01 in
      ! a02 ⊗ (! a12 ⊗ ! s20 ⊖ ! a02 ⊗ ! s12) >>= λ _ _ cubic3.
      ! same two ⊗ ! triple ⊗ ! a12 ⊗ ! a02 ⊕ ! a02 ⊗ (! same two ⊗ ! a01 ⊕ ! a02) ⊗ ! s12
      ⊕ ! a12 ⊗ (! a12 ⊖ ! a01) ⊗ ! s20 >>= λ _ _ cubic2.
      ! a12 ⊗ (! a02 ⊖ ! a12) ⊗ ! s01 ⊖ ! a01 ⊗ ! a01 ⊗ ! s12
      ⊖ ! same two ⊗ ! a01 ⊗ (! triple ⊗ ! a12 ⊕ ! a02 ⊗ ! s12) >>= λ _ _ cubic1.
      ! a01 ⊗ (! a01 ⊗ ! s12 ⊖ ! a12 ⊗ ! s01) >>= λ _ _ cubic0.
      pure (record { cubic3 = cubic3; cubic2 = cubic2; cubic1 = cubic1; cubic0 = cubic0 })

  coefficient_scale-at : {c c' : Coefficients}
      → AtCoefficients k c c'
      → At k (pos 4) (coefficient_scale c) (coefficient_scale c')
  unfolding coefficient_scale
  coefficient_scale-at c =
      max-at (max-at (max-at (abs-at c.cubic3) (abs-at c.cubic2)) (abs-at c.cubic1))
      (abs-at c.cubic0)

  pub is_unusable-same : {c c' : Coefficients}
      → AtCoefficients k c c'
      → Both {A = Bool} ◌≡◌ (is_unusable c) (is_unusable c')
  unfolding is_unusable
  is_unusable-same c =
      let scale = coefficient_scale-at c in
      if ap not (finite-same scale) then pure refl
      else (
      ! scale ⊗ ! same epsilon ⊗ ! same sixty_four >>= λ _ _ limit.
      pure (le_same (abs-at c.cubic3) limit))

  -- ---- the condition of an ordering
  folded_scale-at : {c c' : Coefficients}
      → AtCoefficients k c c'
      → At k (pos 4) (folded_scale c) (folded_scale c')
  unfolding folded_scale
  folded_scale-at c =
      max-at
      (max-at (max-at (max-at null (abs-at c.cubic3)) (abs-at c.cubic2)) (abs-at c.cubic1))
      (abs-at c.cubic0)

  leading_share-scales : {c c' : Coefficients}
      → AtCoefficients k c c'
      → Scales k (pos 0) (leading_share c) (leading_share c')
  unfolding leading_share
  leading_share-scales c =
      let scale = folded_scale-at c in
      if ap₂ (λ (a b : Bool). a || not b) (eq-same scale null) (finite-same scale) then pure null
      else ! abs-at c.cubic3 ⊘ ! scale

  condition_of_edges-same : {e e' : SquaredEdges} (bearings : Bearings)
      → AtSquaredEdges k e e'
      → Both {A = Float} ◌≡◌ (condition_of_edges e bearings) (condition_of_edges e' bearings)
  unfolding condition_of_edges
  condition_of_edges-same bearings squares =
      alike {m = cosines bearings} >>≡ λ bearing_cosines.
      alike {m = squared_sines bearing_cosines} >>≡ λ sines.
      cubic_coefficients-scales sines squares >>= λ _ _ cubic.
      equal (leading_share-scales cubic)

  pub leading_cubic_condition-same : {w w' : World} (bearings : Bearings)
      → AtWorld k w w'
      → Both {A = Float} ◌≡◌ (leading_cubic_condition w bearings) (leading_cubic_condition w' bearings)
  unfolding leading_cubic_condition
  leading_cubic_condition-same bearings w =
      edge_vectors-scales w >>= λ _ _ edges.
      squared_edges-scales edges >>= λ _ _ squares.
      condition_of_edges-same bearings squares

-- The refinement scales: depths at degree 1 from squared edges at 2, with the same number of
-- updates. The residuals have degree 2, the denominator 3 and its inverse -3. Assumes nothing.
use mathlib.Core.Path.{refl, ap, ap₂}
use mathlib.Core.Bool.{not, ◌||◌}
use Prim.Native.Nat.{ℕ, zero, suc, ◌+◌}
use lib.IntN.{ℤ, pos}
use lib.Ieee.{Float}
use Rattle.ieee754.specs.Literal.{half, two, ten⁻¹⁰}
use Rattle.ieee754.specs.Scaling.{Both, At, AtOption, some-at, none-at}
use Rattle.ieee754_laws.proofs.Degrees.{same, null, !◌, ⊝◌, ◌⊗◌, ◌⊘◌, ◌⊕◌, ◌⊖◌, pure, if◌then◌else◌}
use Rattle.ieee754_laws.proofs.Degrees.{◌>>=◌, choose, max-at, lt_same, eq-same, finite-same}
use Rattle.ieee754_laws.proofs.Degrees.{with_some}
use Rattle.linalg.specs.VectorScaling.{AtVector}
use Rattle.linalg.proofs.VectorDegrees.{abs_sum-scales, all_finite-same}
use Rattle.refinement.specs.Types.{Vector3, SquaredEdges, Cosines}
use Rattle.refinement.specs.RefineDepths.{depth_residual, if_finite, depth_update, depth_step}
use Rattle.refinement.specs.RefineDepths.{refine_turns, refine_depths}
use Rattle.frames.specs.FrameScaling.{AtSquaredEdges}
use Rattle.refinement.specs.RefinedScaling.{AtRefined}

module _ {k : ℤ} (cosines : Cosines) where
  depth_residual-scales : {depths depths' : Vector3} {squares squares' : SquaredEdges}
      → AtVector k (pos 1) depths depths'
      → AtSquaredEdges k squares squares'
      → Both (AtVector k (pos 2))
      (depth_residual depths squares cosines)
      (depth_residual depths' squares' cosines)
  unfolding depth_residual
  depth_residual-scales depths squares =
      let d0 = depths.x in
      let d1 = depths.y in
      let d2 = depths.z in
      let m01 = same cosines.m01 in
      let m02 = same cosines.m02 in
      let m12 = same cosines.m12 in
      ! d0 ⊗ ! d0 ⊖ ! same two ⊗ ! d0 ⊗ ! d1 ⊗ ! m01 ⊕ ! d1 ⊗ ! d1 ⊖ ! squares.a01 >>= λ _ _ r0.
      ! d0 ⊗ ! d0 ⊖ ! same two ⊗ ! d0 ⊗ ! d2 ⊗ ! m02 ⊕ ! d2 ⊗ ! d2 ⊖ ! squares.a02 >>= λ _ _ r1.
      ! d1 ⊗ ! d1 ⊖ ! same two ⊗ ! d1 ⊗ ! d2 ⊗ ! m12 ⊕ ! d2 ⊗ ! d2 ⊖ ! squares.a12 >>= λ _ _ r2.
      pure (record { x = r0; y = r1; z = r2 })

  if_finite-scales : {v v' : Vector3}
      → AtVector k (pos 1) v v'
      → AtOption (AtVector k (pos 1)) (if_finite v) (if_finite v')
  unfolding if_finite
  if_finite-scales v = choose (AtOption (AtVector k (pos 1))) (ap not (all_finite-same v)) none-at (some-at v)

  depth_update-scales : {depths depths' residual residual' : Vector3}
      → AtVector k (pos 1) depths depths'
      → AtVector k (pos 2) residual residual'
      → Both (AtOption (AtVector k (pos 1)))
      (depth_update depths cosines residual)
      (depth_update depths' cosines residual')
  unfolding depth_update
  depth_update-scales depths residual =
      let d0 = depths.x in
      let d1 = depths.y in
      let d2 = depths.z in
      let m01 = same cosines.m01 in
      let m02 = same cosines.m02 in
      let m12 = same cosines.m12 in
      let r0 = residual.x in
      let r1 = residual.y in
      let r2 = residual.z in
      ! d0 ⊖ ! d1 ⊗ ! m01 >>= λ _ _ x11.
      ! d1 ⊖ ! d0 ⊗ ! m01 >>= λ _ _ x12.
      ! d0 ⊖ ! d2 ⊗ ! m02 >>= λ _ _ x21.
      ! d2 ⊖ ! d0 ⊗ ! m02 >>= λ _ _ x23.
      ! d1 ⊖ ! d2 ⊗ ! m12 >>= λ _ _ x32.
      ! d2 ⊖ ! d1 ⊗ ! m12 >>= λ _ _ x33.
      ! x11 ⊗ ! x23 ⊗ ! x32 ⊕ ! x12 ⊗ ! x21 ⊗ ! x33 >>= λ _ _ denominator.
      if ap₂ ◌||◌ (ap not (finite-same denominator)) (eq-same denominator null) then pure none-at
      else (
      ! same half ⊘ ! denominator >>= λ _ _ inverse.
      ! d0 ⊕ (⊝ ! x23 ⊗ ! x32 ⊗ ! r0 ⊖ ! x12 ⊗ ! x33 ⊗ ! r1 ⊕ ! x12 ⊗ ! x23 ⊗ ! r2) ⊗ ! inverse >>=
      λ _ _ c0.
      ! d1 ⊕ (⊝ ! x21 ⊗ ! x33 ⊗ ! r0 ⊕ ! x11 ⊗ ! x33 ⊗ ! r1 ⊖ ! x11 ⊗ ! x23 ⊗ ! r2) ⊗ ! inverse >>=
      λ _ _ c1.
      ! d2 ⊕ (! x21 ⊗ ! x32 ⊗ ! r0 ⊖ ! x11 ⊗ ! x32 ⊗ ! r1 ⊖ ! x12 ⊗ ! x21 ⊗ ! r2) ⊗ ! inverse >>=
      λ _ _ c2.
      pure (if_finite-scales (record { x = c0; y = c1; z = c2 })))

  -- ---- the loop
  module _ {squares squares' : SquaredEdges} {tolerance tolerance' : Float}
      (squares-at : AtSquaredEdges k squares squares')
      (tolerance-at : At k (pos 2) tolerance tolerance') where
    depth_step-scales : {depths depths' : Vector3}
        → AtVector k (pos 1) depths depths'
        → Both (AtOption (AtVector k (pos 1)))
        (depth_step depths squares cosines tolerance)
        (depth_step depths' squares' cosines tolerance')
    unfolding depth_step
    depth_step-scales depths =
        depth_residual-scales depths squares-at >>= λ _ _ residual.
        abs_sum-scales residual >>= λ _ _ residual_norm.
        if lt_same residual_norm tolerance-at then pure none-at
        else depth_update-scales depths residual

    refine_turns-scales : (n u : ℕ) {depths depths' : Vector3}
        → AtVector k (pos 1) depths depths'
        → Both (AtRefined k)
        (refine_turns n depths squares cosines tolerance u)
        (refine_turns n depths' squares' cosines tolerance' u)
    unfolding refine_turns
    refine_turns-scales zero u depths = pure (record { depths = depths; updates = refl })
    refine_turns-scales (suc n) u {depths} {depths'} h =
        let now :
        AtRefined k (record { depths = depths; updates = u })
        (record { depths = depths'; updates = u }) =
        record { depths = h; updates = refl } in
        depth_step-scales h >>= λ _ _ step.
        with_some step (pure now) (λ _ _ next. refine_turns-scales n (u + 1) next)

  pub refine_depths-scales : {depths depths' : Vector3} {squares squares' : SquaredEdges}
      (iterations : ℕ)
      → AtVector k (pos 1) depths depths'
      → AtSquaredEdges k squares squares'
      → Both (AtRefined k)
      (refine_depths depths squares cosines iterations)
      (refine_depths depths' squares' cosines iterations)
  unfolding refine_depths
  refine_depths-scales iterations depths squares =
      let largest = max-at (max-at squares.a01 squares.a02) squares.a12 in
      ! same ten⁻¹⁰ ⊗ ! largest >>= λ _ _ tolerance.
      refine_turns-scales squares tolerance iterations 0 depths

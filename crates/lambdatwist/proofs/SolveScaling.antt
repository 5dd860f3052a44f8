-- The solve of two runs whose worlds are at degree 1 and whose bearings are equal: answers alike,
-- with the rotations, counts, marks and refusals equal and the translations at degree 1. Assumes
-- nothing.
use mathlib.Core.Path.{◌≡◌, refl, ap, subst}
use mathlib.Core.Bool.{Bool, not, ◌&&◌}
use mathlib.Core.List.{Forall₂}
use Prim.Native.Nat.{ℕ, zero, suc}
use lib.Dec.{eqb}
use lib.IntN.{ℤ, pos}
use lib.Ieee.{Float, le}
use Rattle.ieee754.specs.Literal.{sixty_four, epsilon}
use Rattle.ieee754.specs.Traced as traced
use Rattle.ieee754.specs.Traced.{Traced}
use Rattle.ieee754.specs.Scaling.{Both}
use Rattle.ieee754_laws.proofs.Degrees.{same, at_zero, !◌, ◌⊗◌, ◌⊘◌, pure, ◌>>=◌, ◌>>≡◌}
use Rattle.ieee754_laws.proofs.Degrees.{if◌then◌else◌, choose, equal, with_some, with_same}
use Rattle.linalg.specs.VectorScaling.{AtMatrix}
use Rattle.linalg.specs.Vectors.{all_finite}
use Rattle.linalg.proofs.VectorDegrees.{all_finite-same}
use Rattle.polynomial.proofs.RootScaling.{with_root-scales}
use Rattle.polynomial.proofs.CubicScaling.{cubic-scales}
use Rattle.p3p_common.specs.Input.{input_finite}
use Rattle.frames.specs.FrameScaling.{AtWorld, AtPose}
use Rattle.p3p_common.specs.PoseScaling.{AtInput, AtSolutions}
use Rattle.p3p_common.proofs.SlotScaling.{empty-scales}
use Rattle.lambdatwist.specs.Solve.{answered, refused, if_kept, stopped, solve_candidates}
use Rattle.lambdatwist.specs.Solve.{solve_root, solve_cubic, ordered_or, best_or, solve_ordered}
use Rattle.lambdatwist.specs.Solve.{solve}
use Rattle.lambdatwist.specs.Types.{Matrix3, World, Bearings, P3pInput, Solutions}
use Rattle.lambdatwist.specs.Types.{Measured, Coefficients, Candidates, Answer}
use Rattle.orderings.proofs.CubicScaling.{AtCoefficients, is_unusable-same}
use Rattle.orderings.proofs.MeasureScaling.{AtMeasured, basis_of-scales, measure-scales}
use Rattle.orderings.proofs.MeasureScaling.{measured_cubic-scales}
use Rattle.depths.specs.Matrix.{singular_matrix}
use Rattle.depths.specs.Signs.{candidates}
use Rattle.depths.proofs.MatrixScaling.{singular_matrix-scales}
use Rattle.depths.proofs.RatioScaling.{ratio_of-same}
use Rattle.depths.specs.RatioOf.{ratio_of}
use Rattle.eigen.proofs.SystemScaling.{AtSystem, found_at, eig_with_known_zero-scales}
use Rattle.eigen.specs.declared.known_zero.Eigensystem.{Eigensystem}
use Rattle.depths.proofs.ChartScaling.{AtCandidates}
use Rattle.depths.proofs.SignScaling.{candidates-scales}
use Rattle.lambdatwist.proofs.PoseScaling.{poses-scales}
use Rattle.orderings.proofs.PermutationScaling.{best_permutation-scales}

pub record AtAnswer (k : ℤ) (a a' : Answer) : Type 0 where
  pub refusal : a.refusal ≡ a'.refusal
  pub count : a.count ≡ a'.count
  pub poses : Forall₂ (AtPose k) a.poses a'.poses
  pub updates : a.updates ≡ a'.updates
  pub lifted : a.lifted ≡ a'.lifted

module _ {k : ℤ} where
  -- ---- answers
  answered-at : (number : ℕ) {s s' : Solutions}
      → AtSolutions k s s'
      → AtAnswer k (answered number s) (answered number s')
  unfolding answered
  answered-at number s = record {
    refusal = refl;
    count = s.count;
    poses = s.poses;
    updates = s.updates;
    lifted = s.lifted;
  }

  pub refused-alike : (number : ℕ) → AtAnswer k (refused number) (refused number)
  unfolding refused
  refused-alike number = answered-at number empty-scales

  if_kept-at : {s s' : Solutions} → AtSolutions k s s' → AtAnswer k (if_kept s) (if_kept s')
  unfolding if_kept
  if_kept-at s =
      choose (AtAnswer k) (ap (λ (n : ℕ). eqb n 0) s.count) (refused-alike 3) (answered-at 0 s)

  stops : Both (AtAnswer k) stopped stopped
  stops = pure (refused-alike 3)

  -- ---- the stages of the ordered solve
  module _ {input input' : P3pInput} (I : AtInput k input input') where
    module _ {m m' : Measured} (M : AtMeasured k m m') where
      solve_candidates-scales : {c c' : Candidates}
          → AtCandidates k c c'
          → Both (AtAnswer k) (solve_candidates input m c) (solve_candidates input' m' c')
      unfolding solve_candidates
      solve_candidates-scales found =
          basis_of-scales M.source >>= λ _ _ basis.
          with_some basis stops (λ _ _ world_inverse.
          poses-scales I M world_inverse found >>= λ _ _ solutions.
          pure (if_kept-at solutions))

      -- the factors are equal, so they may be taken of either run
      matrix-scales : (g : Float)
          → Both (AtMatrix k (pos 2))
          (singular_matrix m.squares m.factors g)
          (singular_matrix m'.squares m'.factors g)
      matrix-scales g = rw (← M.factors) (singular_matrix-scales m.factors g M.squares)

      found-scales : (e : Matrix3) (ratio : Float) (lifted : Bool)
          → Both (AtCandidates k)
          (candidates m.squares m.factors e ratio lifted)
          (candidates m'.squares m'.factors e ratio lifted)
      found-scales e ratio lifted =
          rw (← M.factors) (candidates-scales m.factors M.squares e ratio lifted)

      -- what follows an eigensystem
      abbrev after : P3pInput → Measured → Eigensystem → Traced Answer
      after input m eigen =
          traced.◌>>=◌ (ratio_of eigen.values.x eigen.values.y) (λ ratio.
          traced.with_some ratio stopped (λ real.
          traced.◌>>=◌ (candidates m.squares m.factors eigen.vectors real eigen.lifted)
          (solve_candidates input m)))

      after_scales : {e e' : Eigensystem}
          → AtSystem k e e'
          → Both (AtAnswer k) (after input m e) (after input' m' e')
      after_scales (found_at vectors lifted values) =
          ratio_of-same values.x values.y >>≡ λ ratio.
          with_same ratio stops (λ real.
          found-scales vectors real lifted >>= λ _ _ found.
          solve_candidates-scales found)

      solve_root-scales : (g : Float)
          → Both (AtAnswer k) (solve_root input m g) (solve_root input' m' g)
      unfolding solve_root
      solve_root-scales g =
          matrix-scales g >>= λ _ _ matrix.
          eig_with_known_zero-scales matrix >>= λ _ _ system.
          with_some system stops (λ _ _ eigen. after_scales eigen)

      solve_cubic-scales : {c c' : Coefficients}
          → AtCoefficients k c c'
          → Both (AtAnswer k) (solve_cubic input m c) (solve_cubic input' m' c')
      unfolding solve_cubic
      solve_cubic-scales c =
          ! c.cubic2 ⊘ ! c.cubic3 >>= λ _ _ c2.
          ! c.cubic1 ⊘ ! c.cubic3 >>= λ _ _ c1.
          ! c.cubic0 ⊘ ! c.cubic3 >>= λ _ _ c0.
          cubic-scales c2 c1 c0 >>= λ _ _ root.
          with_root-scales root stops (λ g g' same.
          subst (λ (h : Float). Both (AtAnswer k) (solve_root input m g) (solve_root input' m' h))
          (at_zero same) (solve_root-scales g))

    ordered_or-scales : {world world' : World} (bearings : Bearings)
        → AtWorld k world world'
        → (retry : P3pInput → Traced Answer)
        → Both (AtAnswer k) (retry input) (retry input')
        → Both (AtAnswer k)
        (ordered_or retry input world bearings)
        (ordered_or retry input' world' bearings)
    unfolding ordered_or
    ordered_or-scales bearings w retry again =
        measure-scales bearings w >>= λ _ _ measured.
        measured_cubic-scales measured >>= λ _ _ cubic.
        is_unusable-same cubic >>= λ _ _ unusable.
        if unusable then again else solve_cubic-scales measured cubic

  -- ---- the given ordering, and the retry with one less
  module _ {world world' : World} (bearings : Bearings) (W : AtWorld k world world') where
    abbrev given : P3pInput
    given = record { world = world; bearings = bearings }

    abbrev given' : P3pInput
    given' = record { world = world'; bearings = bearings }

    same-input : AtInput k given given'
    same-input = record { world = W; bearings = refl }

    -- the solve of an ordering of the given points, with n retries left
    abbrev Ordered : ℕ → Type 0
    Ordered n =
        (w w' : World) (f : Bearings)
        → AtWorld k w w'
        → Both (AtAnswer k) (solve_ordered n given w f) (solve_ordered n given' w' f)

    retry-scales : (n : ℕ)
        → Ordered n
        → Both (AtAnswer k) (best_or (solve_ordered n) given) (best_or (solve_ordered n) given')
    unfolding best_or
    retry-scales n ordered =
        best_permutation-scales bearings W >>= λ best best' h.
        equal {k = k} (! same sixty_four ⊗ ! same epsilon) >>≡ λ limit.
        if ap (λ (c : Float). le c limit) h.condition then pure (refused-alike 2)
        else subst (λ (f : Bearings).
        Both (AtAnswer k)
        (solve_ordered n given best.world best.bearings)
        (solve_ordered n given' best'.world f))
        h.bearings
        (ordered best.world best'.world best.bearings h.world)

    solve_ordered-scales : (n : ℕ) → Ordered n
    unfolding solve_ordered
    solve_ordered-scales zero w w' f h =
        ordered_or-scales same-input f h (λ input. traced.pure (refused 2)) (pure (refused-alike 2))
    solve_ordered-scales (suc n) w w' f h =
        ordered_or-scales same-input f h (best_or (solve_ordered n))
        (retry-scales n (solve_ordered-scales n))

    pub input_finite-same : input_finite given ≡ input_finite given'
    unfolding input_finite
    input_finite-same = λ i.
        all_finite-same W.p0 i && all_finite-same W.p1 i && all_finite-same W.p2 i
        && all_finite bearings.f0 && all_finite bearings.f1 && all_finite bearings.f2

    pub solve-scales : Both (AtAnswer k) (solve world bearings) (solve world' bearings)
    unfolding solve
    solve-scales =
        if ap not input_finite-same then pure (refused-alike 1)
        else solve_ordered-scales 1 world world' bearings W

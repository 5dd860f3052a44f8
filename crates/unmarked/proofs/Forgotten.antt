-- The solve gives the answer that document 01 defines, once its marks are forgotten, as
-- specs/Forget.antt states it. Assumes nothing.
use Rattle.std.proofs.Common.{◌≡◌, ℕ, zero, suc, not, eqb, ap}
use lib.Ieee.{Float, le}
use Rattle.ieee754.specs.Literal.{sixty_four, epsilon}
use Rattle.ieee754.specs.Traced as traced
use Rattle.ieee754.specs.Traced.{Traced, ◌⊗◌, ◌⊘◌, !◌}
use Rattle.polynomial.specs.Answer.{with_root}
use Rattle.polynomial.specs.PolishedRoot.{polished_cubic_root}
use Rattle.polynomial.specs.declared.Roots.{Roots}
use Rattle.polynomial.specs.declared.Roots.TheVariants.{Two, Double, Lifted, One, Refused}
use Rattle.p3p_common.specs.Input.{input_finite}
use Rattle.orderings.specs.Basis.{basis_of}
use Rattle.p3p_common.specs.declared.solutions.Solutions.{Solutions}
use Rattle.orderings.specs.Measure.{measure, measured_cubic}
use Rattle.orderings.specs.Cubic.{is_unusable}
use Rattle.orderings.specs.Permutation.{best_permutation}
use Rattle.depths.specs.Matrix.{singular_matrix}
use Rattle.depths.specs.RatioOf.{ratio_of}
use Rattle.depths.specs.Signs.{candidates}
use Rattle.depths.specs.declared.candidates.Candidates.{Candidates}
use Rattle.lambdatwist.specs.Solve.{answered, refused, if_kept, stopped, solve_candidates, solve_root}
use Rattle.lambdatwist.specs.Solve.{solve_cubic, ordered_or, best_or, solve_ordered, solve}
use Rattle.lambdatwist.specs.declared.solve.Answer.{Answer}
use Rattle.unmarked.specs.Solve as before
use Rattle.unmarked.specs.Types as unmarked
use Rattle.unmarked.specs.Types.{Matrix3, World, Bearings, P3pInput, Measured, Coefficients}
use Rattle.unmarked.specs.Forget.{forget, Forgotten}
use Rattle.unmarked.proofs.Forgets.{Forgets, choose, pure, if◌then◌else◌, ◌>>=◌, ◌>>≡◌}
use Rattle.unmarked.proofs.Forgets.{with_same}
use Rattle.unmarked.proofs.Eigensystem.{with_system-forgets, eig_with_known_zero-forgets}
use Rattle.unmarked.proofs.Candidates.{SameCandidates, candidates-forgets}
use Rattle.unmarked.proofs.Poses.{SameSolutions, empty-forgets, poses-forgets}

abbrev Same : Answer → unmarked.Answer → Type 0
Same a a' = forget a ≡ a'

-- ---- what follows a root of the cubic, which has no marks
module _ {none : Traced Answer} {none' : Traced unmarked.Answer} where
  with_root-forgets : (r : Roots) {k : Float → Traced Answer} {k' : Float → Traced unmarked.Answer}
      → Forgets Same none none'
      → ((x : Float) → Forgets Same (k x) (k' x))
      → Forgets Same (with_root r none k) (with_root r none' k')
  with_root-forgets (Two x y) none next = none
  with_root-forgets (Double x) none next = none
  with_root-forgets (Lifted x) none next = none
  with_root-forgets (One x) none next = next x
  with_root-forgets (Refused n) none next = none

-- ---- answers
answered-forgets : (number : ℕ) {s : Solutions} {s' : unmarked.Solutions}
    → SameSolutions s s'
    → forget (answered number s) ≡ before.answered number s'
unfolding forget answered before.answered
answered-forgets number s = λ i. record {
  refusal = number;
  count = s.count i;
  poses = s.poses i;
  updates = s.updates i;
}

refused-forgets : (number : ℕ) → forget (refused number) ≡ before.refused number
unfolding refused before.refused
refused-forgets number = answered-forgets number empty-forgets

if_kept-forgets : {s : Solutions} {s' : unmarked.Solutions}
    → SameSolutions s s'
    → forget (if_kept s) ≡ before.if_kept s'
unfolding if_kept before.if_kept
if_kept-forgets s =
    choose Same (ap (λ (n : ℕ). eqb n 0) s.count) (refused-forgets 3) (answered-forgets 0 s)

stops : Forgets Same stopped before.stopped
stops = pure (refused-forgets 3)

-- ---- the stages of the ordered solve
module _ (input : P3pInput) where
  module _ (measured : Measured) where
    solve_candidates-forgets : {c : Candidates} {c' : unmarked.Candidates}
        → SameCandidates c c'
        → Forgets Same
        (solve_candidates input measured c)
        (before.solve_candidates input measured c')
    unfolding solve_candidates before.solve_candidates
    solve_candidates-forgets found =
        basis_of measured.source >>≡ λ basis.
        with_same basis stops (λ world_inverse.
        poses-forgets input measured world_inverse found >>= λ _ _ solutions.
        pure (if_kept-forgets solutions))

    solve_root-forgets : (g : Float)
        → Forgets Same (solve_root input measured g) (before.solve_root input measured g)
    unfolding solve_root before.solve_root
    solve_root-forgets g =
        singular_matrix measured.squares measured.factors g >>≡ λ matrix.
        eig_with_known_zero-forgets matrix >>= λ _ _ system.
        with_system-forgets (λ system. traced.◌>>=◌ (ratio_of system.values.x system.values.y)
        (λ ratio. traced.with_some ratio stopped (λ real. traced.◌>>=◌
        (candidates measured.squares measured.factors system.vectors real system.lifted)
        (solve_candidates input measured))))
        system stops (λ eigenvectors eigenvalues lifted.
        ratio_of eigenvalues.x eigenvalues.y >>≡ λ ratio.
        with_same ratio stops (λ real.
        candidates-forgets measured.squares measured.factors eigenvectors real lifted >>=
        λ _ _ found.
        solve_candidates-forgets found))

    solve_cubic-forgets : (c : Coefficients)
        → Forgets Same (solve_cubic input measured c) (before.solve_cubic input measured c)
    unfolding solve_cubic before.solve_cubic
    solve_cubic-forgets c =
        ! c.cubic2 ⊘ ! c.cubic3 >>≡ λ c2.
        ! c.cubic1 ⊘ ! c.cubic3 >>≡ λ c1.
        ! c.cubic0 ⊘ ! c.cubic3 >>≡ λ c0.
        polished_cubic_root c2 c1 c0 >>≡ λ root.
        with_root-forgets root stops solve_root-forgets

  ordered_or-forgets : (world : World) (bearings : Bearings) (retry : P3pInput → Traced Answer)
      (retry' : P3pInput → Traced unmarked.Answer)
      → Forgets Same (retry input) (retry' input)
      → Forgets Same
      (ordered_or retry input world bearings)
      (before.ordered_or retry' input world bearings)
  unfolding ordered_or before.ordered_or
  ordered_or-forgets world bearings retry retry' again =
      measure world bearings >>≡ λ measured.
      measured_cubic measured >>≡ λ cubic.
      is_unusable cubic >>≡ λ unusable.
      if unusable then again else solve_cubic-forgets measured cubic

  -- ---- an ordering of the given points, with n retries left, and the retry with one less
  abbrev Ordered : ℕ → Type 0
  Ordered n =
      (world : World) (bearings : Bearings)
      → Forgets Same
      (solve_ordered n input world bearings)
      (before.solve_ordered n input world bearings)

  retry-forgets : (n : ℕ)
      → Ordered n
      → Forgets Same
      (best_or (solve_ordered n) input)
      (before.best_or (before.solve_ordered n) input)
  unfolding best_or before.best_or
  retry-forgets n ordered =
      best_permutation input >>≡ λ best.
      ! sixty_four ⊗ ! epsilon >>≡ λ limit.
      if le best.condition limit then pure (refused-forgets 2)
      else ordered best.world best.bearings

  solve_ordered-forgets : (n : ℕ) → Ordered n
  unfolding solve_ordered before.solve_ordered
  solve_ordered-forgets zero world bearings =
      ordered_or-forgets world bearings (λ _. traced.pure (refused 2))
      (λ _. traced.pure (before.refused 2)) (pure (refused-forgets 2))
  solve_ordered-forgets (suc n) world bearings =
      ordered_or-forgets world bearings (best_or (solve_ordered n))
      (before.best_or (before.solve_ordered n)) (retry-forgets n (solve_ordered-forgets n))

solve-forgets : (world : World) (bearings : Bearings)
    → Forgets Same (solve world bearings) (before.solve world bearings)
unfolding solve before.solve
solve-forgets world bearings =
    let input : P3pInput = record { world = world; bearings = bearings } in
    if not (input_finite input) then pure (refused-forgets 1)
    else solve_ordered-forgets input 1 world bearings

pub forgotten : (world : World) (bearings : Bearings) → Forgotten world bearings
forgotten world bearings =
    let same = solve-forgets world bearings in
    record { answer = same.value; premise = same.regular }

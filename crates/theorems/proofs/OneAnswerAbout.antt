-- Demand 1 for the solve about the first target, as specs/OneAnswerAbout.antt states it: its answer
-- is the solve's of the differences (`about-solves`), of which `one_answer` speaks. As a
-- consequence its translations and its origin are finite, as the scaling rule's proof needs them.
-- Assumes nothing.
use mathlib.Core.Path.{◌≡◌, refl, ap, subst⁻¹, ◌∙◌}
use Prim.Native.Nat.{ℕ, suc}
use lib.Dec.{T, T_not, not_T}
use lib.Ieee.Fits.{and_i, and_l, and_r}
use Rattle.ieee754.proofs.Tests.{three}
use Rattle.linalg.specs.Vectors.{zeros, all_finite}
use Rattle.p3p_common.specs.Input.{input_finite}
use Rattle.lambdatwist.specs.Solve.{solve}
use Rattle.frames.specs.Points.{world_finite}
use Rattle.about.specs.Differences.{differences}
use Rattle.about.specs.SolveAbout.{with_origin, solve_about}
use Rattle.about.proofs.AsSolve.{parts-finite, moved-finite, solved-finite, about-solves}
use Rattle.about.proofs.AsSolve.{origin-refused, origin-accepted, origin-keeps}
use Rattle.theorems.specs.OneAnswer as one
use Rattle.theorems.specs.OneAnswer.{Refused, OneAnswer}
use Rattle.theorems.specs.OneAnswerAbout.{about_first, differences_finite, OneAnswerAbout}
use Rattle.theorems.specs.OneAnswerAbout.{refused-1, refused-2, refused-3, accepted}
use Rattle.theorems.specs.Types.{Vector3, World, Bearings, P3pInput, Answer, AnswerAbout}
use Rattle.theorems.proofs.OneAnswer.{one_answer}
use Rattle.theorems.proofs.FiniteTranslation.{FiniteTranslations, zeros-finite, solve-finite}

module _ (world : World) (bearings : Bearings) where
  abbrev given : P3pInput
  given = record { world = world; bearings = bearings }

  -- ---- question 1: the solve's, of the differences, is the two that were asked
  as-solved : T (differences_finite given) → T (input_finite (about_first given))
  unfolding differences_finite
  as-solved h =
      let moved = world_finite (about_first given).world in
      solved-finite world bearings (and_l (input_finite given) moved h)
      (and_r (input_finite given) moved h)

  as-asked : T (input_finite (about_first given)) → T (differences_finite given)
  unfolding differences_finite
  as-asked h =
      let both = moved-finite world bearings h in
      and_i (input_finite given) (world_finite (about_first given).world) both.0 both.1

  -- ---- the solve's answer to the differences, with the origin
  refused-about : {a : Answer} {n : ℕ}
      → Refused (suc n) a
      → OneAnswerAbout given (record { answer = a; origin = zeros })
      → OneAnswerAbout given (with_origin world.p0 a)
  refused-about {a} r h =
      subst⁻¹ (OneAnswerAbout given) (origin-refused world.p0 a r.refusal) h

  one-answer-of : (a : Answer)
      → OneAnswer (about_first given) a
      → OneAnswerAbout given (with_origin world.p0 a)
  one-answer-of a (one.refused-1 f r) =
      let asked = not_T (differences_finite given)
      (λ h. T_not (input_finite (about_first given)) f (as-solved h)) in
      refused-about r (refused-1 asked r refl)
  one-answer-of a (one.refused-2 f o r) = refused-about r (refused-2 (as-asked f) o r refl)
  one-answer-of a (one.refused-3 f o r) = refused-about r (refused-3 (as-asked f) o r refl)
  one-answer-of a (one.accepted f o s) =
      subst⁻¹ (OneAnswerAbout given) (origin-accepted world.p0 a s.refusal)
      (accepted (as-asked f) o s refl)

  pub one-answer-about : OneAnswerAbout given (solve_about world bearings).value
  one-answer-about =
      subst⁻¹ (OneAnswerAbout given) (about-solves world bearings)
      (one-answer-of _ (one_answer (differences world).value bearings))

  -- ---- what the answer holds is finite
  pub about-finite : FiniteTranslations (solve_about world bearings).value.answer.poses
  about-finite =
      let moved = (differences world).value in
      let answer : (solve_about world bearings).value.answer ≡ (solve moved bearings).value =
      ap (λ (a : AnswerAbout). a.answer) (about-solves world bearings)
      ∙ origin-keeps world.p0 (solve moved bearings).value in
      subst⁻¹ (λ (a : Answer). FiniteTranslations a.poses) answer (solve-finite moved bearings)

  first-finite : T (differences_finite given) → T (all_finite world.p0)
  unfolding differences_finite world_finite
  first-finite h =
      let moved = world_finite (about_first given).world in
      let points = (parts-finite world bearings (and_l (input_finite given) moved h)).0 in
      (three (all_finite world.p0) (all_finite world.p1) (all_finite world.p2) points).0

  finite-of : {a : AnswerAbout} → OneAnswerAbout given a → T (all_finite a.origin)
  finite-of (refused-1 f r o) = subst⁻¹ (λ (v : Vector3). T (all_finite v)) o zeros-finite
  finite-of (refused-2 f n r o) = subst⁻¹ (λ (v : Vector3). T (all_finite v)) o zeros-finite
  finite-of (refused-3 f n r o) = subst⁻¹ (λ (v : Vector3). T (all_finite v)) o zeros-finite
  finite-of (accepted f n s o) = subst⁻¹ (λ (v : Vector3). T (all_finite v)) o (first-finite f)

  pub origin-finite : T (all_finite (solve_about world bearings).value.origin)
  origin-finite = finite-of one-answer-about

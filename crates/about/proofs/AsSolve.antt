-- Whatever the eighteen numbers are, the answer about the first target is the solve's of the
-- differences, with the point that was subtracted (`about-solves`): both of the questions before it
-- end as the solve's own first question would. And the origin beside an answer, refused or not.
-- Document 02, §1. Assumes nothing.
use mathlib.Core.Path.{◌≡◌, refl, sym, ap}
use mathlib.Core.Bool.{Bool, not, ◌&&◌}
use Prim.Native.Nat.{ℕ, suc}
use borrow.Author.Tests.{eq-eqb, ne_eqb}
use native.Mathlib.Omega.{arith}
use lib.Dec.{T, T_not, eqb}
use lib.Ieee.Fits.{and_i, and_l, and_r}
use mir.Facts.{T_not-not}
use Rattle.ieee754.specs.Traced.{Traced}
use Rattle.ieee754.proofs.Tests.{three, all_three, either_way}
use Rattle.linalg.specs.Vectors.{zeros, all_finite}
use Rattle.p3p_common.specs.Input.{input_finite}
use Rattle.lambdatwist.specs.Solve.{refused, solve}
use Rattle.frames.specs.Points.{world_finite}
use Rattle.about.specs.Differences.{differences}
use Rattle.about.specs.SolveAbout.{answer_about, with_origin, solve_about}
use Rattle.about.specs.Types.{Vector3, World, Bearings, P3pInput, Answer}
use Rattle.about.specs.Types.{AnswerAbout}
use Rattle.about.proofs.DifferenceLaws.{points-finite}

-- ---- an input is finite where its points and its bearings are
module _ (w : World) (f : Bearings) where
  abbrev rays_finite : Bool
  rays_finite = all_finite f.f0 && all_finite f.f1 && all_finite f.f2

  abbrev input : P3pInput
  input = record { world = w; bearings = f }

  pub parts-finite : T (input_finite input) → T (world_finite w) × T rays_finite
  unfolding input_finite world_finite
  parts-finite h =
      let f0 = all_finite f.f0 in
      let f1 = all_finite f.f1 in
      let f2 = all_finite f.f2 in
      let s = three (world_finite w && f0) f1 f2 h in (
        and_l (world_finite w) f0 s.0,
        all_three f0 f1 f2 (and_r (world_finite w) f0 s.0) s.1 s.2,
      )

  both-finite : T (world_finite w) → T rays_finite → T (input_finite input)
  unfolding input_finite world_finite
  both-finite p r =
      let f0 = all_finite f.f0 in
      let f1 = all_finite f.f1 in
      let f2 = all_finite f.f2 in
      let s = three f0 f1 f2 r in
      all_three (world_finite w && f0) f1 f2 (and_i (world_finite w) f0 p s.0) s.1 s.2

module _ (world : World) (bearings : Bearings) where
  abbrev moved : World
  moved = (differences world).value

  -- the solve's input is finite exactly where the differences and what was given are
  pub moved-finite : T (input_finite (input moved bearings))
      → T (input_finite (input world bearings)) × T (world_finite moved)
  moved-finite h =
      let parts = parts-finite moved bearings h in
      (both-finite world bearings (points-finite world parts.0) parts.1, parts.0)

  pub solved-finite : T (input_finite (input world bearings))
      → T (world_finite moved)
      → T (input_finite (input moved bearings))
  solved-finite h m = both-finite moved bearings m (parts-finite world bearings h).1

  -- where it is not, the solve refuses with 1
  solve-refuses : (T (input_finite (input moved bearings)) → ⊥)
      → (solve moved bearings).value ≡ refused 1
  unfolding solve
  solve-refuses infinite =
      let finite = input_finite (input moved bearings) in
      either_way (λ (m : Traced Answer). m.value ≡ refused 1) (not finite) (λ _. refl)
      (λ f. absurd (infinite (T_not-not finite f)))

  pub answer-solves : (answer_about world bearings).value ≡ (solve moved bearings).value
  unfolding answer_about
  answer-solves =
      let given = input_finite (input world bearings) in
      let Solves : Traced Answer → Type 0 = λ m. m.value ≡ (solve moved bearings).value in
      either_way Solves (not given)
      (λ n. sym (solve-refuses (λ h. T_not given n (moved-finite h).0)))
      (λ _. either_way Solves (not (world_finite moved))
      (λ n. sym (solve-refuses (λ h. T_not (world_finite moved) n (moved-finite h).1)))
      (λ _. refl))

  pub about-solves :
      (solve_about world bearings).value ≡ with_origin world.p0 (solve moved bearings).value
  unfolding solve_about
  about-solves = ap (with_origin world.p0) answer-solves

-- ---- the origin beside an answer
module _ (origin : Vector3) (answer : Answer) where
  pub origin-refused : {n : ℕ}
      → answer.refusal ≡ suc n
      → with_origin origin answer ≡ record { answer = answer; origin = zeros }
  unfolding with_origin
  origin-refused h = rw (ne_eqb answer.refusal 0 (λ z. omega (arith, z, h)))

  pub origin-accepted : answer.refusal ≡ 0
      → with_origin origin answer ≡ record { answer = answer; origin = origin }
  unfolding with_origin
  origin-accepted h = rw (eq-eqb answer.refusal 0 h)

  pub origin-keeps : (with_origin origin answer).answer ≡ answer
  unfolding with_origin
  origin-keeps =
      either_way (λ (a : AnswerAbout). a.answer ≡ answer) (not (eqb answer.refusal 0))
      {x = record { answer = answer; origin = zeros }}
      {y = record { answer = answer; origin = origin }}
      (λ _. refl) (λ _. refl)

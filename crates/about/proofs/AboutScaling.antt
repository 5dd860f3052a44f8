-- The solve about the first target of two runs whose worlds are at degree 1 and whose bearings are
-- equal: the differences are at degree 1, so the solve's answers are alike, and the subtracted
-- point is at degree 1. Assumes nothing.
use mathlib.Core.Path.{◌≡◌, ap}
use mathlib.Core.Bool.{not, ◌&&◌}
use Prim.Native.Nat.{ℕ}
use lib.Dec.{eqb}
use lib.IntN.{ℤ, pos}
use Rattle.ieee754.specs.Scaling.{Both}
use Rattle.ieee754_laws.proofs.Degrees.{pure, ◌>>=◌, if◌then◌else◌, choose}
use Rattle.linalg.specs.VectorScaling.{AtVector}
use Rattle.linalg.proofs.VectorDegrees.{null-vector, vec_sub-scales, all_finite-same}
use Rattle.frames.specs.FrameScaling.{AtWorld}
use Rattle.lambdatwist.proofs.SolveScaling.{AtAnswer, refused-alike, input_finite-same, solve-scales}
use Rattle.frames.specs.Points.{world_finite}
use Rattle.about.specs.Differences.{differences}
use Rattle.about.specs.SolveAbout.{answer_about, with_origin, solve_about}
use Rattle.about.specs.Types.{Vector3, World, Bearings, Answer, AnswerAbout}

pub record AtAnswerAbout (k : ℤ) (a a' : AnswerAbout) : Type 0 where
  pub answer : AtAnswer k a.answer a'.answer
  pub origin : AtVector k (pos 1) a.origin a'.origin

module _ {k : ℤ} where
  -- ---- the differences
  differences-scales : {w w' : World}
      → AtWorld k w w'
      → Both (AtWorld k) (differences w) (differences w')
  unfolding differences
  differences-scales w =
      vec_sub-scales w.p0 w.p0 >>= λ _ _ p0.
      vec_sub-scales w.p1 w.p0 >>= λ _ _ p1.
      vec_sub-scales w.p2 w.p0 >>= λ _ _ p2.
      pure (record { p0 = p0; p1 = p1; p2 = p2 })

  world_finite-same : {w w' : World} → AtWorld k w w' → world_finite w ≡ world_finite w'
  unfolding world_finite
  world_finite-same w =
      λ i. all_finite-same w.p0 i && all_finite-same w.p1 i && all_finite-same w.p2 i

  -- ---- answers
  with_origin-at : {o o' : Vector3} {a a' : Answer}
      → AtVector k (pos 1) o o'
      → AtAnswer k a a'
      → AtAnswerAbout k (with_origin o a) (with_origin o' a')
  unfolding with_origin
  with_origin-at o a =
      choose (AtAnswerAbout k) (ap (λ (n : ℕ). not (eqb n 0)) a.refusal)
      (record { answer = a; origin = null-vector }) (record { answer = a; origin = o })

  module _ {world world' : World} (bearings : Bearings) (W : AtWorld k world world') where
    answer_about-scales : Both (AtAnswer k) (answer_about world bearings) (answer_about world' bearings)
    unfolding answer_about
    answer_about-scales =
        if ap not (input_finite-same bearings W) then pure (refused-alike 1)
        else (differences-scales W >>= λ _ _ moved.
        if ap not (world_finite-same moved) then pure (refused-alike 1)
        else solve-scales bearings moved)

    pub solve_about-scales :
        Both (AtAnswerAbout k) (solve_about world bearings) (solve_about world' bearings)
    unfolding solve_about
    solve_about-scales = answer_about-scales >>= λ _ _ answer. pure (with_origin-at W.p0 answer)

-- Number 10 is given exactly where no pose has a finite score, so where all poses lie behind. It
-- follows from `one_answer`. Assumes nothing.
use mathlib.Core.Path.{◌≡◌, ap, subst}
use mathlib.Core.List.{List, [], ◌∷◌, ◌++◌}
use Prim.Native.Nat.{ℕ}
use native.Mathlib.Omega.{arith}
use lib.Dec.{T_not}
use lib.Ieee.{lt}
use Rattle.ieee754.specs.Literal.{plus_zero}
use Rattle.choice.specs.Answer.{number, no_score}
use Rattle.choice.specs.Choose.{choose}
use Rattle.choice.specs.OneAnswer.{Each, stated, depth, NoFiniteScore, IsBehind}
use Rattle.choice.specs.OneAnswer.{OneAnswer, refused-10, chosen}
use Rattle.choice.specs.Types.{Vector3, Pose, Best, Result, Ok, Err}
use Rattle.choice.proofs.OneAnswer.{each-also, one_answer}

-- what holds of each holds of the one between
each-between : (P : Pose → Type 0) (xs : List Pose) (y : Pose) (zs : List Pose)
    → Each P (xs ++ (y ∷ zs))
    → P y
each-between P [] y zs h = h.0
each-between P (x ∷ xs) y zs h = each-between P xs y zs h.1

module _ (target bearing : Vector3) (poses : List Pose) (count : ℕ) where
  only-10 : (answer : Result Best ℕ)
      → OneAnswer target bearing poses count answer
      → Each (NoFiniteScore target bearing) (stated poses count)
      → answer ≡ no_score
  only-10 (Err n) (refused-10 h is-10 p v) none = ap Err is-10
  only-10 (Ok best) (refused-10 h is-10 p v) none = absurd (omega (arith, is-10))
  only-10 answer (chosen lowest w n a b c v) none =
      absurd (each-between (NoFiniteScore target bearing) w.before w.best w.after
      (subst (Each (NoFiniteScore target bearing)) w.poses-are none) lowest w.has-score)

  none-has-score : (answer : Result Best ℕ)
      → OneAnswer target bearing poses count answer
      → number answer ≡ 10
      → Each (NoFiniteScore target bearing) (stated poses count)
  none-has-score answer (refused-10 h _ p v) is-10 = h
  none-has-score answer (chosen lowest w is-0 a b c v) is-10 = absurd (omega (arith, is-0, is-10))

  pub refused-if : Each (NoFiniteScore target bearing) (stated poses count)
      → (choose poses count target bearing).value ≡ no_score
  refused-if = only-10 _ (one_answer target bearing poses count)

  pub refused-only-if : number (choose poses count target bearing).value ≡ 10
      → Each (NoFiniteScore target bearing) (stated poses count)
  refused-only-if = none-has-score _ (one_answer target bearing poses count)

  pub all-behind : Each (IsBehind target bearing) (stated poses count)
      → (choose poses count target bearing).value ≡ no_score
  all-behind behind =
      refused-if
      (each-also (IsBehind target bearing) (NoFiniteScore target bearing)
      (λ pose n x s. T_not (lt plus_zero (depth target bearing pose)) n s.in-front)
      (stated poses count) behind)

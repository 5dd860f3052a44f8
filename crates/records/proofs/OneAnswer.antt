-- Demand 1 of the mission for records, as specs/OneAnswer.antt states it: by document 01's
-- questions, in their order. Assumes nothing.
use mathlib.Core.Path.{◌≡◌, refl, sym, subst}
use mathlib.Core.List.{List}
use mathlib.Core.Logic.{by_cases}
use Prim.Native.Nat.{ℕ, ◌+◌, ◌-◌, ◌≤◌}
use native.Mathlib.Decide.{dec_lt, ℕ_discrete}
use native.Mathlib.Omega.{arith}
use lib.ListN.{length}
use Rattle.records.specs.Types.{Record}
use Rattle.records.specs.Record.{record_at, number, frames, nexts}
use Rattle.records.specs.OneAnswer.{Gives, length_at, version_at, OneAnswer, ended, no-length-9}
use Rattle.records.specs.OneAnswer.{refused-7, refused-9, refused-8, accepted}
use Rattle.records.proofs.Answers as answers

-- what a record gives
gives : (r : Record) → Gives (number r) (frames r) (nexts r) r
gives r = record { number_is = refl; frames-are = refl; nexts-are = refl }

module _ (s : List ℕ) (at : ℕ) where
  -- the answer is a record of which it holds
  answered : {r : Record} → record_at s at ≡ r → OneAnswer s at r → OneAnswer s at (record_at s at)
  answered e = subst (OneAnswer s at) (sym e)

  -- the length is 193
  module _ (right : length_at s at ≡ 193) where
    versioned : 193 ≤ length s - at - 2 → OneAnswer s at (record_at s at)
    versioned whole =
        let two : 2 ≤ length s - at = omega arith in
        let all : at + 195 ≤ length s = omega arith in
        by_cases (ℕ_discrete (version_at s at) 1)
        (λ e.
        answered (answers.accepted s at two right whole e) (accepted all right e (gives _)))
        (λ n.
        answered (answers.wrong-version s at two right whole n) (refused-8 all right n (gives _)))

    sized : 2 ≤ length s - at → OneAnswer s at (record_at s at)
    sized two =
        by_cases (dec_lt (length s - at - 2) 193)
        (λ short.
        answered (answers.truncated s at two right short)
        (refused-9 (omega arith) right (omega arith) (gives _)))
        (λ n. versioned (omega arith))

  pub one_answer : OneAnswer s at (record_at s at)
  one_answer =
      by_cases (dec_lt at (length s))
      (λ some.
      by_cases (dec_lt (length s - at) 2)
      (λ lone.
      answered (answers.lone-byte s at some lone) (no-length-9 some (omega arith) (gives _)))
      (λ two.
      let pair : 2 ≤ length s - at = omega arith in
      by_cases (ℕ_discrete (length_at s at) 193)
      (λ right. sized right pair)
      (λ wrong.
      answered (answers.wrong-length s at pair wrong) (refused-7 (omega arith) wrong (gives _)))))
      (λ none.
      let end : length s ≤ at = omega arith in
      answered (answers.ended s at end) (ended end (gives _)))

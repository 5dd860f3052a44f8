-- An answer has four slots. Assumes nothing.
use mathlib.Core.Path.{◌≡◌}
use mathlib.Core.List.{[], ◌∷◌}
use lib.ListN.{length}
use denote.Laws.{Is}
use denote.Struct.Declared.{row}
use denote.Struct.Laws as struct
use Rattle.lambdatwist.specs.Types.{Answer}
use Rattle.lambdatwist.specs.contracts.solve.Answer as answer
use Rattle.lambdatwist.proofs.solve.Answer.TheLaws as answer-laws

pub four-poses : (a : Answer)
    → Is (row answer.the_type) a (struct.val answer.the_type answer-laws.the_laws a ∷ [])
    → length a.poses ≡ 4
four-poses a ok =
    (struct.owed answer.the_type answer-laws.the_laws a
    (struct.val answer.the_type answer-laws.the_laws a ∷ []) ok).1.1.0.1.0.1

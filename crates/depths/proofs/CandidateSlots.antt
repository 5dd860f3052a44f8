-- A struct of candidates has four slots. Assumes nothing.
use mathlib.Core.Path.{◌≡◌}
use mathlib.Core.List.{[], ◌∷◌}
use lib.ListN.{length}
use denote.Laws.{Is}
use denote.Struct.Declared.{row}
use denote.Struct.Laws as struct
use Rattle.depths.specs.Types.{Candidates}
use Rattle.depths.specs.contracts.candidates.Candidates as candidates
use Rattle.depths.proofs.candidates.Candidates.TheLaws as candidates-laws

pub four-slots : (found : Candidates)
    → Is (row candidates.the_type) found
    (struct.val candidates.the_type candidates-laws.the_laws found ∷ [])
    → length found.slots ≡ 4
four-slots found ok =
    (struct.owed candidates.the_type candidates-laws.the_laws found
    (struct.val candidates.the_type candidates-laws.the_laws found ∷ []) ok).1.1.0.1.0.1

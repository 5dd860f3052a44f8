-- The line that is written of a file of stored answers, and what a writer holds where a write
-- failed.
use Rattle.std.specs.Prelude.{ℕ, List, ◌++◌, codes, decimal}
use Rattle.std.specs.Io.KnownBytes.{Appends}
use Rattle.std.specs.declared.option.Option.{Option}

-- "NAME N compared, M differ"
abbrev pub report_line : List ℕ → ℕ → ℕ → List ℕ
report_line name compared differ =
    name ++ codes " " ++ decimal compared ++ codes " compared, " ++ decimal differ ++ codes " differ\n"

-- where it is known what a writer holds, that stays, and some bytes may stand behind it
abbrev pub Grows : Option (List ℕ) → Option (List ℕ) → Type 0
Grows old new = (bytes : List ℕ) × Appends old new bytes

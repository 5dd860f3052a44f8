-- What a reader has left where a read failed.
use Rattle.std.specs.Prelude.{ℕ, List}
use Rattle.std.specs.declared.option.Option.{Option}
use Rattle.std.specs.Io.KnownBytes.{Consumes}

-- where it is known what a reader has left, that begins with what has been read, and loses it
abbrev pub Shrinks : Option (List ℕ) → Option (List ℕ) → Type 0
Shrinks old new = (bytes : List ℕ) × Consumes old new bytes

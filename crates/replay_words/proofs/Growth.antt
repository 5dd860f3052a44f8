-- What a writer holds where some writes succeeded and the next one failed. Assumes nothing.
use Rattle.std.specs.Prelude.{ℕ, List, ◌++◌, OnErr, Ok, Err}
use Rattle.std.specs.declared.option.Option.{Option}
use Rattle.std.specs.declared.result.Result.{Result}
use Rattle.std.specs.Io.KnownBytes.{Appends}
use Rattle.std.proofs.KnownBytes.{Appends-trans}
use Rattle.replay_words.specs.Report.{Grows}

pub grows-behind : (a b c : Option (List ℕ)) (bytes : List ℕ)
    → Appends a b bytes
    → Grows b c
    → Grows a c
grows-behind a b c bytes first rest = (bytes ++ rest.0, Appends-trans a b c bytes rest.0 first rest.1)

pub at-error : {A E : Type 0} {P : Type 0} (r : Result A E) → P → OnErr r P
at-error (Ok x) p = tt
at-error (Err e) p = p

-- What the doubles that are lent to a root finder hold when it returns, in their order: the roots,
-- or what they held before where it refuses: document 01, "Questions, in order"; and the kind of a
-- quadratic's pair (document 02, §8).
use Rattle.std.specs.Prelude.{ℕ, List, eqb, Float, if◌then◌else◌}
use Rattle.polynomial.specs.Answer.{number, values, kind}
use Rattle.p3p.specs.Types.{Roots}

abbrev pub roots_after : Roots → List Float → List Float
roots_after answer held = if eqb (number answer) 0 then values answer else held

abbrev pub kind_after : Roots → ℕ → ℕ
kind_after answer held = if eqb (number answer) 0 then kind answer else held

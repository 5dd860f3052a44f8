-- What a choice stands for: the place of a pose with its score, or the number of a refusal.
use Rattle.std.specs.Prelude.{ℕ, List, [], ◌∷◌, Float}
use Rattle.choice.specs.Types.{Best, Result, Ok, Err}

-- a choice's number, 0 where nothing is refused
abbrev pub number : Result Best ℕ → ℕ
number (Ok best) = 0
number (Err n) = n

-- the place of the chosen pose, from 1, and 0 where there is none
abbrev pub place : Result Best ℕ → ℕ
place (Ok best) = best.place
place (Err n) = 0

-- the score of the chosen pose; a refusal has none
abbrev pub values : Result Best ℕ → List Float
values (Ok best) = best.score ∷ []
values (Err n) = []

-- no pose has a finite score
abbrev pub no_score : Result Best ℕ
no_score = Err 10

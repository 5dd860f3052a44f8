-- What the arguments of the program ask for.
use Rattle.std.specs.Prelude.{ℕ, Bool, true, false, cond, List, [], ◌∷◌, ◌==◌, nat_lt}
use Rattle.listing.specs.Bytes.{ascii}
use Rattle.listing_program.specs.Types.{Request, Listing, Help, Version, Usage}

-- whether two lists are equal
abbrev pub same : List ℕ → List ℕ → Bool
same [] [] = true
same [] (y ∷ ys) = false
same (x ∷ xs) [] = false
same (x ∷ xs) (y ∷ ys) = cond (x == y) (same xs ys) false

-- what one argument asks for; two are known
abbrev pub request_of_one : List ℕ → Request
request_of_one argument =
    cond (same argument (ascii "--help")) Help
    (cond (same argument (ascii "--version")) Version Usage)

-- by the number of words that the program is started with, its own name among them, and the first
-- of the others
abbrev pub request_of : ℕ → List ℕ → Request
request_of words argument =
    cond (nat_lt words 2) Listing (cond (nat_lt 2 words) Usage (request_of_one argument))

-- The cases of document 01, "Checked by hand", that are marked P and speak of the quadratic and the
-- cubic, as rows of a table: arguments and roots by their bit patterns. The quadratic's have the
-- kind of their pair too (document 02, §8).
use Rattle.std.specs.Prelude.{ℕ, Bool, true, false, ◌&&◌, List, [], ◌∷◌, eqb, Float}
use Rattle.ieee754.specs.Literal.{double, has_bits}
use Rattle.polynomial.specs.Answer.{number, values, kind}
use Rattle.polynomial.specs.Quadratic.{quadratic_real_monic}
use Rattle.polynomial.specs.PolishedRoot.{polished_cubic_root}
use Rattle.polynomial.specs.Types.{Roots}

-- the doubles' patterns are these words
unfoldable pub have_bits : List Float → List ℕ → Bool
have_bits [] [] = true
have_bits [] (w ∷ ws) = false
have_bits (x ∷ xs) [] = false
have_bits (x ∷ xs) (w ∷ ws) = has_bits x w && have_bits xs ws

-- the answer's number and values are these
unfoldable pub answers : Roots → ℕ → List ℕ → Bool
answers r n ws = eqb (number r) n && have_bits (values r) ws

-- a row: the arguments, the number of the answer, 0 where nothing is refused, the roots' kind, and
-- the roots
pub data RootCase : Type 0 where
  quadratic : (b c n kind : ℕ) → List ℕ → RootCase
  cubic : (b c d n : ℕ) → List ℕ → RootCase

unfoldable pub root_case_holds : RootCase → Bool
root_case_holds (quadratic b c n k ws) =
    let answer = (quadratic_real_monic (double b) (double c)).value in
    answers answer n ws && eqb (kind answer) k
root_case_holds (cubic b c d n ws) =
    answers (polished_cubic_root (double b) (double c) (double d)).value n ws

-- every row of a table holds
unfoldable pub every : {A : Type 0} → (A → Bool) → List A → Bool
every holds [] = true
every holds (row ∷ rows) = holds row && every holds rows

unfoldable pub root_cases : List RootCase
root_cases =
    -- (-3, 2) gives 2, 1
    quadratic 0xc008_0000_0000_0000 0x4000_0000_0000_0000 0 0
    (0x4000_0000_0000_0000 ∷ 0x3ff0_0000_0000_0000 ∷ [])
    -- (2, 1) gives -1, -1, by a discriminant of zero
    ∷ quadratic 0x4000_0000_0000_0000 0x3ff0_0000_0000_0000 0 1
    (0xbff0_0000_0000_0000 ∷ 0xbff0_0000_0000_0000 ∷ [])
    -- (0, 1) gives 5
    ∷ quadratic 0 0x3ff0_0000_0000_0000 5 0 []
    -- (+0, -4) gives -2, 2
    ∷ quadratic 0 0xc010_0000_0000_0000 0 0 (0xc000_0000_0000_0000 ∷ 0x4000_0000_0000_0000 ∷ [])
    -- (-0, -4) gives 2, -2
    ∷ quadratic 0x8000_0000_0000_0000 0xc010_0000_0000_0000 0 0
    (0x4000_0000_0000_0000 ∷ 0xc000_0000_0000_0000 ∷ [])
    -- (+0, +0) gives minus zero twice, by a discriminant of zero
    ∷ quadratic 0 0 0 1 (0x8000_0000_0000_0000 ∷ 0x8000_0000_0000_0000 ∷ [])
    -- (2, 1 + 2^-46) gives -1, -1, lifted
    ∷ quadratic 0x4000_0000_0000_0000 0x3ff0_0000_0000_0040 0 2
    (0xbff0_0000_0000_0000 ∷ 0xbff0_0000_0000_0000 ∷ [])
    -- (2, 1 + 2^-46 + 2^-52) gives 5
    ∷ quadratic 0x4000_0000_0000_0000 0x3ff0_0000_0000_0041 5 0 []
    -- cubic (0, 0, 0) gives plus zero
    ∷ cubic 0 0 0 0 (0 ∷ [])
    -- (3, 3, 1) gives 6
    ∷ cubic 0x4008_0000_0000_0000 0x4008_0000_0000_0000 0x3ff0_0000_0000_0000 6 []
    ∷ []

-- A 64-bit word out of a list of bytes, most significant byte first. Past the end of the list the
-- bytes are 0. The files of stored answers are made of such words.
use Rattle.std.specs.Prelude.{ℕ, ◌+◌, ◌*◌, List, get_or}

-- the number of the four bytes from i places after `at` on
abbrev pub half_at : List ℕ → ℕ → ℕ → ℕ
half_at s at i =
    (get_or s (at + i) 0 * 256 + get_or s (at + (i + 1)) 0) * 0x1_0000
    + (get_or s (at + (i + 2)) 0 * 256 + get_or s (at + (i + 3)) 0)

-- the word of the eight bytes from `at` on
unfoldable pub word_at : List ℕ → ℕ → ℕ
word_at s at = half_at s at 0 * 0x1_0000_0000 + half_at s at 4

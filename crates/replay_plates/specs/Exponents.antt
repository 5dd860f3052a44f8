-- The exponent of a power of two in a word: a number of 32 bits, in two's complement of 64.
use Rattle.std.specs.Prelude.{ℕ, ◌-◌, Bool, ◌||◌, ltb, ℤ, pos, negsuc, if◌then◌else◌}

-- whether a word is such a number: below 2^31, or at least 2^64 - 2^31
unfoldable pub is_exponent : ℕ → Bool
is_exponent w = ltb w 0x8000_0000 || ltb 0xffff_ffff_7fff_ffff w

-- the number; negsuc n is -1 - n
unfoldable pub exponent : ℕ → ℤ
exponent w = if ltb w 0x8000_0000 then pos w else negsuc (0xffff_ffff_ffff_ffff - w)

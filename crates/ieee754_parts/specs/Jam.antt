-- A number cut short, with a mark for what was cut off: what the right shifts of src/wide.rt
-- return. Definitions only. Assumes nothing.
use Rattle.std.specs.Prelude.{ℕ, suc, ◌+◌, ◌*◌, ◌/◌, ◌%◌, ◌^◌, min}

-- The digits of n from 2 ^ (k + 1) on, and after them one more, which says whether n has a digit
-- other than 0 below. It is n / 2 ^ k, cut to a whole number, with the last digit set if that drops
-- anything.
unfoldable pub jam : ℕ → ℕ → ℕ
jam k n = n / 2 ^ suc k * 2 + min 1 (n % 2 ^ suc k)

-- The number that the two words of a `Wide` (src/wide.rt) stand for. Definitions only. Assumes
-- nothing.
use Rattle.std.specs.Prelude.{ℕ, ◌+◌, ◌*◌, ◌^◌}
use Rattle.ieee754_parts.specs.Types.{Wide}

abbrev pub value : Wide → ℕ
value v = v.hi * 2 ^ 64 + v.lo

-- A finite double as a sign, a significand and an exponent: what src/unpack.rt returns, and
-- src/pack.rt takes. Definitions only. Assumes nothing.
use Rattle.std.specs.Prelude.{ℕ, ◌*◌, ◌^◌, ◌<◌, ◌≤◌, Bool, cond, Float}
use Rattle.std.specs.Float.Ieee.Exact.{HasValue}
use Rattle.ieee754_parts.specs.Types.{Unpacked}

-- the significand has at most 53 digits, and all of them unless the exponent is the lowest
pub record IsSignificand (sig exp : ℕ) : Type 0 where
  pub short : sig < 2 ^ 53
  pub full : 0 < exp → 2 ^ 52 ≤ sig
  pub within : exp ≤ 2045

-- x is ±sig * 2 ^ exp / 2 ^ 1074
pub record IsUnpacked (x : Float) (r : Unpacked) : Type 0 where
  pub is : HasValue x r.negative (r.sig * 2 ^ r.exp) (2 ^ 1074)
  pub digits : IsSignificand r.sig r.exp

-- the sign's bit of a pattern
abbrev pub sign_bit : Bool → ℕ
sign_bit s = cond s (2 ^ 63) 0

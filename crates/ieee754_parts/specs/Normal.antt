-- Numbers with their leading digit at a fixed place: what src/normal.rt returns. Definitions only.
-- Assumes nothing.
use Rattle.std.specs.Prelude.{◌≡◌, ℕ, ◌+◌, ◌*◌, ◌^◌, ◌<◌, ◌≤◌, Bool}
use Rattle.ieee754_parts.specs.Types.{Scaled, Wide}
use Rattle.ieee754_parts.specs.Rounded.{rounded}
use Rattle.ieee754_parts.specs.Value.{value}

-- r is sig * 2 ^ exp * 2 ^ 52 with a significand of 53 digits
pub record IsNormal (sig exp : ℕ) (r : Scaled) : Type 0 where
  pub low : 2 ^ 52 ≤ r.sig
  pub high : r.sig < 2 ^ 53
  pub within : r.exp < 2098
  pub same : r.sig * 2 ^ r.exp ≡ sig * 2 ^ exp * 2 ^ 52

-- r rounds as v * 2 ^ exp does, and its top digit is set, unless it is so small that the smallest
-- double decides which digits are kept
pub record IsRoundable (v : Wide) (exp : ℕ) (r : Scaled) : Type 0 where
  pub alike : (s : Bool) → rounded s (r.sig * 2 ^ r.exp) ≡ rounded s (value v * 2 ^ exp)
  pub top : 1081 < r.exp → 2 ^ 63 ≤ r.sig
  pub within : r.exp ≤ exp + 64

-- What the leading word of a sum says of its rounding: what `settle` of src/leading.rt returns.
-- Definitions only. Assumes nothing.
use Rattle.std.specs.Prelude.{◌≡◌, ℕ, ◌+◌, ◌-◌, ◌*◌, ◌^◌, ◌<◌, ◌≤◌, Bool}
use Rattle.std.specs.Float.{binary64}
use Rattle.std.specs.Float.Ieee.{units}
use Rattle.ieee754_parts.specs.Types.{Scaled}
use Rattle.ieee754_parts.specs.Rounded.{rounded}

-- every number from (n - 1) * 2 ^ exp to (n + 2) * 2 ^ exp rounds to r, which has 53 digits
pub record Settles (n exp : ℕ) (r : Scaled) : Type 0 where
  pub some : 0 < n
  pub word : n < 2 ^ 63
  pub full : 2 ^ 52 ≤ r.sig
  pub short : r.sig < 2 ^ 53
  pub within : r.exp < 4000
  pub alike : (s : Bool) (v : ℕ)
      → (n - 1) * 2 ^ exp ≤ v
      → v ≤ (n + 2) * 2 ^ exp
      → rounded s v ≡ units binary64 s r.sig r.exp

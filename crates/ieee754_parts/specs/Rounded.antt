-- Numbers over 2 ^ 2166, rounded: what src/round.rt, src/sum.rt and src/leading.rt return.
-- Definitions only. Assumes nothing.
use Rattle.std.specs.Prelude.{◌≡◌, ℕ, ◌%◌, ◌^◌, ◌<◌, ◌≤◌, Bool, Float}
use Rattle.std.specs.Float.{binary64}
use Rattle.std.specs.Float.Ieee.{round, sum}

-- ±n / 2 ^ 2166
unfoldable pub rounded : Bool → ℕ → Float
rounded s n = round binary64 s n (2 ^ 2166)

-- ±a / 2 ^ 2166 + ±b / 2 ^ 2166
unfoldable pub summed : Bool → ℕ → Bool → ℕ → Float
summed s a t b = sum binary64 s a t b (2 ^ 2166)

-- p * 2 ^ exp can be the product of two significands that were moved up by 9 digits: unless the
-- exponent is the lowest, one of the two has all its digits
pub record IsProduct (p exp : ℕ) : Type 0 where
  pub short : p < 2 ^ 124
  pub full : 0 < exp → 2 ^ 64 ≤ p
  pub within : exp ≤ 4090
  pub even : p % 2 ≡ 0

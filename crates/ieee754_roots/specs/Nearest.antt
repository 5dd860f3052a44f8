-- The whole number nearest to a root, and what is computed to find it, in src/sqrt.rt and
-- src/cbrt.rt. Definitions only. Assumes nothing.
use Rattle.std.specs.Prelude.{ℕ, ◌+◌, ◌-◌, ◌*◌, ◌/◌, ◌^◌, ◌<◌}

-- q is the whole number nearest to the p-th root of n, with no tie: n lies strictly between the
-- p-th powers of q - 1 / 2 and q + 1 / 2
pub record IsNearest (p n q : ℕ) : Type 0 where
  pub above : (2 * q - 1) ^ p < 2 ^ p * n
  pub below : 2 ^ p * n < (2 * q + 1) ^ p

-- the leading digits of the cube of h
unfoldable pub cube_top : ℕ → ℕ
cube_top h = h * h * h / 2 ^ 107

-- `with_sign` meets its contract: a pattern up to the infinity's with a sign fits a word, and is no
-- NaN's. Assumes nothing.
use Rattle.std.proofs.Common.{◌≡◌, ℕ, ◌+◌, ◌*◌, ◌^◌, ◌≤◌, Bool, true, false, not, T, sym, subst, arith, w64, Fits}
use lib.Ieee.{binary64, nan_bits}
use Rattle.ieee754_parts.specs.Unpacked.{sign_bit}
use Rattle.ieee754_parts.proofs.Reading.{no-nan-signed}
use Rattle.ieee754_parts.proofs.pack.with_sign.Goals as goal

sign_le : (s : Bool) → sign_bit s ≤ 2 ^ 63
sign_le true = omega arith
sign_le false = omega arith

-- g is the sign's bit, and b the pattern
signed-fits : (s : Bool) (g b : ℕ) → g ≡ sign_bit s → b ≤ 2047 * 2 ^ 52 → Fits w64 (g + b)
signed-fits s g b e h = record { fits = omega (arith, sign_le s) }

no_nan : (s : Bool) (g b : ℕ)
    → g ≡ sign_bit s
    → b ≤ 2047 * 2 ^ 52
    → T (not (nan_bits binary64 (g + b)))
no_nan s g b e h =
    subst (λ (x : ℕ). T (not (nan_bits binary64 (x + b)))) (sym e) (no-nan-signed binary64 s b h)

pub float_from_bits-result : goal.float_from_bits-result
float_from_bits-result c =
    no_nan c.args.negative c.sign_bit.result c.args.bits c.sign_bit.ensures c.requires

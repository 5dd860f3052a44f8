-- `copysign` meets its contract: of a pattern's parts the lower are x's, and the sign's bit is y's.
-- Assumes nothing.
use Prim.Native.Nat.{ℕ, ◌+◌, ◌*◌, ◌/◌, ◌%◌, ◌^◌, ◌≤◌, ◌<◌}
use mathlib.Core.Path.{◌≡◌, refl, sym, ap, ◌∙◌}
use mathlib.Core.Logic.{⊎_elim}
use native.Mathlib.Nat.{zero-mul, add-zero}
use native.Mathlib.Omega.{arith}
use mir.Syntax.{w64}
use mir.Val.{Fits}
use lib.Dec.{leb}
use lib.Ieee.{Float, nan, binary64, of_bits, to_bits}
use lib.Ieee.Bits.{to_bits-lt}
use borrow.Author.Tests.{le-leb, lt-leb}
use denote.Floats.{passes}
use Rattle.ieee754.specs.CopySign.{negative, copysign}
use Rattle.ieee754_parts.proofs.Reading.{in-range, no_nan, not-nan-bits}
use Rattle.ieee754_parts.proofs.Tests.{denied, lt-or-ge}
use Rattle.ieee754.proofs.Sign.{nan_is, copysign-bits, negative-bits}
use Rattle.ieee754.proofs.copysign.copysign.Goals as goal

of_nan : (y : Float) → copysign nan y ≡ nan
unfolding copysign
of_nan y = refl

-- the sign's bit of y
sign-bit : (b y : ℕ)
    → y < 2 ^ 64
    → leb (2 ^ 63) (b % 2 ^ 63 + y / 2 ^ 63 * 2 ^ 63) ≡ leb (2 ^ 63) y
sign-bit b y h =
    let n = b % 2 ^ 63 + y / 2 ^ 63 * 2 ^ 63 in
    ⊎_elim (λ (l : y < 2 ^ 63). lt-leb (2 ^ 63) n (omega arith) ∙ sym (lt-leb (2 ^ 63) y l))
    (λ (l : 2 ^ 63 ≤ y). le-leb (2 ^ 63) n (omega arith) ∙ sym (le-leb (2 ^ 63) y l))
    (lt-or-ge y (2 ^ 63))

-- without it a pattern is x's
without : (b k : ℕ)
    → b % 2 ^ 63 ≤ 0x7ff0_0000_0000_0000
    → (b % 2 ^ 63 + k * 2 ^ 63) % 2 ^ 63 ≤ 0x7ff0_0000_0000_0000
without b k h = omega arith

sign_fits : (y : ℕ) → y < 2 ^ 64 → Fits w64 (y / 2 ^ 63 * 2 ^ 63)
sign_fits y h = record { fits = omega arith }

both-fit : (b y : ℕ) → y < 2 ^ 64 → Fits w64 (b % 2 ^ 63 + y / 2 ^ 63 * 2 ^ 63)
both-fit b y h = record { fits = omega arith }

-- ---- the function
pub returns-then-is_nan : goal.returns-then-is_nan
returns-then-is_nan c =
    let e = nan_is c.args.x (sym c.is_nan.ensures.value ∙ c.if-is_nan.true) in
    e ∙ sym (ap (λ (x : Float). copysign x c.args.y) e ∙ of_nan c.args.y)

pub float_from_bits-result : goal.float_from_bits-result
float_from_bits-result c =
    no_nan binary64 _
    (in-range binary64 c.args.x (passes _ c.well_formed.0.1)
    (denied c.is_nan.ensures.value c.if-is_nan.false))

pub returns-then-is_nan-2 : goal.returns-then-is_nan-2
returns-then-is_nan-2 c =
    let b = to_bits binary64 c.args.x % 2 ^ 63 in
    ap (of_bits binary64) (sym (add-zero b) ∙ ap (λ (k : ℕ). b + k) (sym (zero-mul (2 ^ 63))))
    ∙ copysign-bits binary64 c.args.x c.args.y 0 (passes _ c.well_formed.0.1)
    (lt-leb (2 ^ 63) (b + 0 * 2 ^ 63) (omega arith)
    ∙ sym (ap negative (nan_is c.args.y (sym c.is_nan-2.ensures.value ∙ c.if-is_nan-2.true))))

pub overflow_mul-result : goal.overflow_mul-result
overflow_mul-result c = sign_fits _ (to_bits-lt binary64 c.args.y (passes _ c.well_formed.1.0.1))

pub overflow_add-result : goal.overflow_add-result
overflow_add-result c =
    both-fit (to_bits binary64 c.args.x) _ (to_bits-lt binary64 c.args.y (passes _ c.well_formed.1.0.1))

pub float_from_bits-result-2 : goal.float_from_bits-result-2
float_from_bits-result-2 c =
    not-nan-bits binary64 _
    (without (to_bits binary64 c.args.x) _
    (in-range binary64 c.args.x (passes _ c.well_formed.0.1)
    (denied c.is_nan.ensures.value c.if-is_nan.false)))

pub returns : goal.returns
returns c =
    let y = c.args.y in
    let good = passes _ c.well_formed.1.0.1 in
    copysign-bits binary64 c.args.x y _ (passes _ c.well_formed.0.1)
    (sign-bit (to_bits binary64 c.args.x) (to_bits binary64 y) (to_bits-lt binary64 y good)
    ∙ negative-bits binary64 y good (denied c.is_nan-2.ensures.value c.if-is_nan-2.false))

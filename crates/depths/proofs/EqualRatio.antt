-- Two equal eigenvalues have no real ratio: minus a value over itself is a NaN or -1
-- (`equal-not-real`). Assumes nothing.
use mathlib.Core.Path.{◌≡◌, refl, ◌∙◌}
use mathlib.Core.Bool.{Bool, true, false, not}
use mathlib.Core.Logic.{◌⊎◌, inl, inr}
use Prim.Native.Nat.{ℕ, zero, suc, ◌*◌, ◌<◌}
use native.Mathlib.Nat.{mul-pos}
use native.Mathlib.Omega.{arith}
use borrow.Author.Tests.{ne_eqb}
use lib.IntN.{ℤ, pos}
use lib.Ieee.{Float, nan, inf, fin, binary64, up, down, unlike, round, neg, mul, div}
use lib.Ieee.{lt, of_bits}
use lib.Ieee.Fits.{up_pos, down_pos}
use lib.Ieee.Scale.{round_same}
use Rattle.depths.specs.RatioOf.{is_not_real, ratio_of}
use Rattle.depths.specs.Types.{None}

abbrev minus_one : Float
minus_one = fin true 1 (pos 0)

over-itself : (a : ℕ) → 0 < a → round binary64 true a a ≡ minus_one
unfolding round
over-itself a above = round_same binary64 true a a 1 1 above (omega arith) (omega arith) ∙ refl

opposite : (s : Bool) → unlike (not s) s ≡ true
opposite true = refl
opposite false = refl

-- the numerator and denominator of a quotient of two equal magnitudes
above : (m : ℕ) (e : ℤ) → 0 < suc m * up e * down e
above m e = mul-pos (mul-pos (omega arith) (up_pos e)) (down_pos e)

quotient : (x : Float)
    → (div binary64 (neg x) x ≡ nan) ⊎ (div binary64 (neg x) x ≡ minus_one)
unfolding div neg
quotient nan = inl refl
quotient (inf s) = inl refl
quotient (fin s zero e) = inl refl
quotient (fin s (suc m) e) =
    inr (rw (
      ne_eqb (suc m) 0 (λ z. omega arith),
      opposite s,
    )
    (over-itself (suc m * up e * down e) (above m e)))

not-real : (r : Float) → (r ≡ nan) ⊎ (r ≡ minus_one) → (is_not_real r).value ≡ true
unfolding is_not_real lt mul neg of_bits
not-real r (inl e) = rw (e)
not-real r (inr e) = rw (e)

pub equal-not-real : (x : Float) → (ratio_of x x).value ≡ None
unfolding ratio_of
equal-not-real x = rw (not-real (div binary64 (neg x) x) (quotient x))

-- The operands of a finite result are finite: `neg-operand`, `add-operands`, `mul-operands`; of a
-- quotient the dividend, `div-dividend`. Assumes nothing.
use mathlib.Core.Bool.{beq}
use lib.Dec.{T, eqb}
use lib.Ieee.{Float, nan, inf, fin, binary64, neg, add, mul, div}
use lib.Ieee.Scale.{finite}
use Rattle.ieee754.proofs.Tests.{cond_either}

pub neg-operand : (x : Float) → T (finite (neg x)) → T (finite x)
unfolding neg
neg-operand nan h = h
neg-operand (inf s) h = h
neg-operand (fin s m e) h = tt

pub add-operands : (x y : Float) → T (finite (add binary64 x y)) → T (finite x) × T (finite y)
unfolding add
add-operands nan y h = absurd h
add-operands (inf s) nan h = absurd h
add-operands (inf s) (inf t) h =
    absurd (cond_either (λ (z : Float). T (finite z) → ⊥) (beq s t) (λ k. k) (λ k. k) h)
add-operands (inf s) (fin t n d) h = absurd h
add-operands (fin s m e) nan h = absurd h
add-operands (fin s m e) (inf t) h = absurd h
add-operands (fin s m e) (fin t n d) h = (tt, tt)

pub mul-operands : (x y : Float) → T (finite (mul binary64 x y)) → T (finite x) × T (finite y)
unfolding mul
mul-operands nan y h = absurd h
mul-operands (inf s) nan h = absurd h
mul-operands (inf s) (inf t) h = absurd h
mul-operands (inf s) (fin t n d) h =
    absurd (cond_either (λ (z : Float). T (finite z) → ⊥) (eqb n 0) (λ k. k) (λ k. k) h)
mul-operands (fin s m e) nan h = absurd h
mul-operands (fin s m e) (inf t) h =
    absurd (cond_either (λ (z : Float). T (finite z) → ⊥) (eqb m 0) (λ k. k) (λ k. k) h)
mul-operands (fin s m e) (fin t n d) h = (tt, tt)

-- a finite number over an infinity is zero, so the divisor need not be finite
pub div-dividend : (x y : Float) → T (finite (div binary64 x y)) → T (finite x)
unfolding div
div-dividend nan y h = absurd h
div-dividend (inf s) nan h = absurd h
div-dividend (inf s) (inf t) h = absurd h
div-dividend (inf s) (fin t n d) h = absurd h
div-dividend (fin s m e) y h = tt

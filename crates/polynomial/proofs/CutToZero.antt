-- A finite discriminant d and `d.max(0.0)`: where that is zero and d is not below zero, d is zero
-- (`cut-zero`), and where it is not zero, d is above zero (`uncut-above`). Assumes nothing.
use mathlib.Core.Bool.{Bool, true, false, not, cond}
use lib.Dec.{T}
use lib.Ieee.{Float, nan, inf, fin, lt, eq, is_nan, of_bits}
use lib.Ieee.Scale.{finite}
use Rattle.ieee754.specs.CopySign.{negative}
use Rattle.ieee754.specs.Literal.{plus_zero}
use Rattle.ieee754.specs.Maximum.{max}
use Rattle.ieee754_laws.proofs.LtLaws.{lt-total}

is_number : (d : Float) → T (finite d) → T (not (is_nan d))
unfolding is_nan
is_number nan f = absurd f
is_number (inf s) f = absurd f
is_number (fin s m e) f = tt

zero-finite : T (finite plus_zero)
unfolding of_bits
zero-finite = tt

zero-zero : T (eq plus_zero plus_zero)
unfolding of_bits eq
zero-zero = tt

surely : (b : Bool) → (T (not b) → T b) → T b
surely true f = tt
surely false f = f tt

never : {A : Type 0} (b : Bool) → T b → T (not b) → A
never true t f = absurd f
never false t f = absurd t

module _ (d : Float) where
  -- `d.max(0.0)` by its tests: d is a NaN, zero is one, d is below zero, is above zero, is negative
  abbrev cut : Bool → Bool → Bool → Bool → Bool → Float
  cut n z below above s =
      cond n plus_zero (cond z d (cond below plus_zero (cond above d (cond s plus_zero d))))

  zero-by : (n z below above s : Bool)
      → T (not n)
      → T (not z)
      → T (not below)
      → (T (not (eq d plus_zero)) → T above)
      → T (eq (cut n z below above s) plus_zero)
      → T (eq d plus_zero)
  zero-by true z below above s number zero not-below total h = absurd number
  zero-by false true below above s number zero not-below total h = absurd zero
  zero-by false false true above s number zero not-below total h = absurd not-below
  zero-by false false false true s number zero not-below total h = h
  zero-by false false false false s number zero not-below total h =
      surely (eq d plus_zero) (λ apart. absurd (total apart))

  apart_by : (n z below above s : Bool)
      → T (not n)
      → T (not z)
      → T (not (eq (cut n z below above s) plus_zero))
      → T (not below) × T (not (eq d plus_zero))
  apart_by true z below above s number zero h = absurd number
  apart_by false true below above s number zero h = absurd zero
  apart_by false false true above s number zero h = never (eq plus_zero plus_zero) zero-zero h
  apart_by false false false true s number zero h = (tt, h)
  apart_by false false false false true number zero h = never (eq plus_zero plus_zero) zero-zero h
  apart_by false false false false false number zero h = (tt, h)

  module _ (f : T (finite d)) where
    pub cut-zero : T (not (lt d plus_zero)) → T (eq (max d plus_zero) plus_zero) → T (eq d plus_zero)
    unfolding max
    cut-zero not-below h =
        zero-by (is_nan d) (is_nan plus_zero) (lt d plus_zero) (lt plus_zero d) (negative d)
        (is_number d f) (is_number plus_zero zero-finite) not-below
        (lt-total d plus_zero f zero-finite not-below) h

    pub uncut-above : T (not (eq (max d plus_zero) plus_zero)) → T (lt plus_zero d)
    unfolding max
    uncut-above h =
        let apart =
        apart_by (is_nan d) (is_nan plus_zero) (lt d plus_zero) (lt plus_zero d) (negative d)
        (is_number d f) (is_number plus_zero zero-finite) h in
        lt-total d plus_zero f zero-finite apart.0 apart.1

-- A value together with whether every rounding operation on the way to it met the premise of the
-- scaling rule, as document 01 states it in "Rounding and sums": none divides by zero or overflows,
-- and no nonzero exact result is below 2 ^ -1022. Each operator of the Rust has a lifted one here,
-- so that a formula is transcribed as it stands: `!` makes a traced value of a value that is at
-- hand, and `do` binds a `let`. What cannot round (negation, magnitude, copied sign, maximum,
-- clamp, comparisons) is not traced.
use Rattle.std.specs.Prelude.{ℕ, ◌+◌, ◌-◌, ◌*◌, ◌^◌, Bool, true, false, ◌&&◌, ◌||◌, not, cond, leb, ltb, eqb, Float}
use Rattle.std.specs.Prelude.{Option, Some, None}
use Rattle.std.specs.Bool.{beq}
use Rattle.std.specs.Float.{nan, inf, fin, binary64}
use Rattle.std.specs.Float.Ieee.{add, sub, mul, div, up, down, neg, unlike}
use Rattle.ieee754.specs.Root.{sqrt, cbrt}
use Rattle.ieee754.specs.Fma.{fma}

pub record Traced (A : Type 0) : Type 0 where
  pub value : A
  pub regular : Bool

abbrev pub pure : {A : Type 0} → A → Traced A
pure a = record { value = a; regular = true }

abbrev pub ◌>>=◌ : {A B : Type 0} → Traced A → (A → Traced B) → Traced B
◌>>=◌ m k = record { value = (k m.value).value; regular = m.regular && (k m.value).regular }

-- What follows a step that can stop, where the Rust writes `?` or `let .. else`: what `k` makes of
-- the value, and `none` where there is none.
abbrev pub with_some : {A B : Type 0} → Option A → Traced B → (A → Traced B) → Traced B
with_some (Some a) none k = k a
with_some None none k = none

-- ---- what is asked of an operation's exact result. On a NaN or an infinity, and for the square
-- root of a negative number, there is none, and nothing is asked.

-- The p-th root of n / d is zero, or from 2 ^ -1022 up and below 2 ^ 1024 - 2 ^ 970. At p = 1 that
-- is n / d itself.
unfoldable pub in_range : ℕ → ℕ → ℕ → Bool
in_range p n d = eqb n 0 || (leb d (n * 2 ^ (p * 1022)) && ltb n (d * (2 ^ 1024 - 2 ^ 970) ^ p))

-- the magnitude of ±a + ±b
abbrev pub magnitude : Bool → ℕ → Bool → ℕ → ℕ
magnitude s a t b = cond (beq s t) (a + b) (cond (ltb a b) (b - a) (a - b))

unfoldable pub add_regular : Float → Float → Bool
add_regular nan y = true
add_regular (inf s) y = true
add_regular (fin s m e) nan = true
add_regular (fin s m e) (inf t) = true
add_regular (fin s m e) (fin t n d) =
    in_range 1 (magnitude s (m * up e * down d) t (n * up d * down e)) (down e * down d)

unfoldable pub mul_regular : Float → Float → Bool
mul_regular nan y = true
mul_regular (inf s) y = true
mul_regular (fin s m e) nan = true
mul_regular (fin s m e) (inf t) = true
mul_regular (fin s m e) (fin t n d) = in_range 1 (m * up e * (n * up d)) (down e * down d)

-- a divisor that is a zero of either sign is ruled out, whatever the dividend
unfoldable pub div_regular : Float → Float → Bool
div_regular nan nan = true
div_regular nan (inf t) = true
div_regular nan (fin t n d) = not (eqb n 0)
div_regular (inf s) nan = true
div_regular (inf s) (inf t) = true
div_regular (inf s) (fin t n d) = not (eqb n 0)
div_regular (fin s m e) nan = true
div_regular (fin s m e) (inf t) = true
div_regular (fin s m e) (fin t n d) =
    not (eqb n 0) && in_range 1 (m * up e * down d) (n * up d * down e)

unfoldable pub fma_regular : Float → Float → Float → Bool
fma_regular nan y z = true
fma_regular (inf s) y z = true
fma_regular (fin s m e) nan z = true
fma_regular (fin s m e) (inf t) z = true
fma_regular (fin s m e) (fin t n d) nan = true
fma_regular (fin s m e) (fin t n d) (inf u) = true
fma_regular (fin s m e) (fin t n d) (fin u l g) =
    in_range 1
    (magnitude (unlike s t) (m * up e * (n * up d) * down g) u (l * up g * (down e * down d)))
    (down e * down d * down g)

-- no double fails the tests of its roots (`sqrt-regular`, `cbrt-regular` in `ieee754_laws`)
unfoldable pub sqrt_regular : Float → Bool
sqrt_regular nan = true
sqrt_regular (inf s) = true
sqrt_regular (fin true m e) = true
sqrt_regular (fin false m e) = in_range 2 (m * up e) (down e)

unfoldable pub cbrt_regular : Float → Bool
cbrt_regular nan = true
cbrt_regular (inf s) = true
cbrt_regular (fin s m e) = in_range 3 (m * up e) (down e)

-- ---- the operations of the Rust, each once, on values that are traced already
abbrev pub !◌ : Float → Traced Float
! x = record { value = x; regular = true }

abbrev pub ⊝◌ : Traced Float → Traced Float
⊝ x = record { value = neg x.value; regular = x.regular }

abbrev pub ◌⊗◌ : Traced Float → Traced Float → Traced Float
x ⊗ y = record {
  value = mul binary64 x.value y.value;
  regular = x.regular && y.regular && mul_regular x.value y.value;
}

abbrev pub ◌⊘◌ : Traced Float → Traced Float → Traced Float
x ⊘ y = record {
  value = div binary64 x.value y.value;
  regular = x.regular && y.regular && div_regular x.value y.value;
}

abbrev pub ◌⊕◌ : Traced Float → Traced Float → Traced Float
x ⊕ y = record {
  value = add binary64 x.value y.value;
  regular = x.regular && y.regular && add_regular x.value y.value;
}

abbrev pub ◌⊖◌ : Traced Float → Traced Float → Traced Float
x ⊖ y = record {
  value = sub binary64 x.value y.value;
  regular = x.regular && y.regular && add_regular x.value (neg y.value);
}

-- x.mul_add(y, z)
abbrev pub mul_add : Traced Float → Traced Float → Traced Float → Traced Float
mul_add x y z = record {
  value = fma x.value y.value z.value;
  regular = x.regular && y.regular && z.regular && fma_regular x.value y.value z.value;
}

abbrev pub √◌ : Traced Float → Traced Float
√ x = record { value = sqrt x.value; regular = x.regular && sqrt_regular x.value }

abbrev pub ∛◌ : Traced Float → Traced Float
∛ x = record { value = cbrt x.value; regular = x.regular && cbrt_regular x.value }

infixl 90 !◌ ⊝◌ √◌ ∛◌
infixl 70 ◌⊗◌ ◌⊘◌
infixl 60 ◌⊕◌ ◌⊖◌
infixl 50 ◌>>=◌

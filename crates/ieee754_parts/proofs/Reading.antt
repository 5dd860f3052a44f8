-- A double taken apart: a value is what the fields of its bit pattern stand for (`read-lowest`,
-- `read-higher`). And which patterns and values are NaNs: a test against itself finds them
-- (`ne-self`). Assumes nothing.
use Rattle.std.proofs.Common.{◌≡◌, ℕ, suc, ◌+◌, ◌-◌, ◌*◌, ◌/◌, ◌%◌, ◌^◌, ◌<◌, ◌≤◌, Bool, true, false, cond, not, T, eqb, leb, sym, refl, ap, ◌∙◌, subst, true≢false, lt_of_le_of_lt, mod-eq_of_lt, mul_assoc, lt-suc_self, mul_comm, mul-lt-mul_of_pos_right, zero-add, mul_right_comm, arith, nltb→le, pow_pos, eq-eqb}
use mathlib.Core.Bool.{false≢true}
use native.Mathlib.Nat.{add-mod_left}
use lib.Arith.{le→nltb}
use lib.Ieee.{Float, nan, inf, fin, Format, binary64, prec, low, hid, ones, top, up, down, odd}
use lib.Ieee.{of_fields, of_bits, to_bits, nan_bits, is_nan, fits, lt, ne, div}
use lib.Ieee.Bits.{of_bits-to_bits, nan_bits_is, nan_bits_above}
use lib.Ieee.Compare.{differs_from_itself, nan_differs}
use lib.Ieee.Exact.{HasValue, odd_sign}
use lib.Ieee.Scale.{finite}
use Rattle.ieee754_parts.proofs.Tests.{denied}

-- ---- what the fields stand for

lowest-field : (f : Format) (s : Bool) (t : ℕ)
    → HasValue (of_fields f s 0 t) s (t * 2 ^ 0) (2 ^ low f)
unfolding of_fields
lowest-field f s t = odd_sign (prec f) s t 0 (low f)

-- a field of all ones is no finite value's
higher-field : (f : Format) (s : Bool) (x t : ℕ)
    → T (finite (of_fields f s (suc x) t))
    → HasValue (of_fields f s (suc x) t) s ((hid f + t) * 2 ^ x) (2 ^ low f) × (suc x ≡ ones f → ⊥)
unfolding of_fields
higher-field f s x t =
    go (eqb (suc x) (ones f)) (eqb t 0) (λ (e : suc x ≡ ones f). eq-eqb (suc x) (ones f) e)
  where
    go : (a b : Bool)
        → (suc x ≡ ones f → a ≡ true)
        → T (finite (cond a (cond b (inf s) nan) (odd (prec f) s (hid f + t) x (low f))))
        → HasValue (cond a (cond b (inf s) nan) (odd (prec f) s (hid f + t) x (low f))) s
        ((hid f + t) * 2 ^ x) (2 ^ low f)
        × (suc x ≡ ones f → ⊥)
    go true true k h = absurd h
    go true false k h = absurd h
    go false b k h = (odd_sign (prec f) s (hid f + t) x (low f), λ e. true≢false (sym (k e)))

-- a normal value's significand has 53 digits
pub field-range : (b : ℕ) → (2 ^ 52 ≤ 2 ^ 52 + b % 2 ^ 52) × (2 ^ 52 + b % 2 ^ 52 < 2 ^ 53)
field-range b = (omega arith, omega arith)

-- ---- the value x by its pattern, of which e is the exponent's field

module _ (f : Format) (x : Float) (h : T (fits f x)) (e : ℕ)
    (is : to_bits f x % top f / hid f ≡ e) where
  by-fields : let b = to_bits f x in x ≡ of_fields f (leb (top f) b) e (b % hid f)
  unfolding of_bits
  by-fields =
      let b = to_bits f x in
      sym (of_bits-to_bits f x h) ∙ ap (λ (y : ℕ). of_fields f (leb (top f) b) y (b % hid f)) is

  -- a subnormal value, or zero
  pub read-lowest : let b = to_bits f x in e ≡ 0
      → HasValue x (leb (top f) b) (b % hid f * 2 ^ 0) (2 ^ low f)
  read-lowest z =
      let b = to_bits f x in
      let s = leb (top f) b in
      let t = b % hid f in
      subst (λ (y : Float). HasValue y s (t * 2 ^ 0) (2 ^ low f))
      (sym (by-fields ∙ ap (λ (y : ℕ). of_fields f s y t) z)) (lowest-field f s t)

  -- a normal value
  pub read-higher :
      let b = to_bits f x in
      T (finite x)
      → (e ≡ 0 → ⊥)
      → HasValue x (leb (top f) b) ((hid f + b % hid f) * 2 ^ (e - 1)) (2 ^ low f)
      × (e ≡ ones f → ⊥)
  read-higher g z =
      let b = to_bits f x in
      let s = leb (top f) b in
      let t = b % hid f in
      let next : e ≡ suc (e - 1) = omega arith in
      let p : x ≡ of_fields f s (suc (e - 1)) t =
      by-fields ∙ ap (λ (y : ℕ). of_fields f s y t) next in
      let v = higher-field f s (e - 1) t (subst (λ (y : Float). T (finite y)) p g) in (
        subst (λ (y : Float). HasValue y s ((hid f + t) * 2 ^ (e - 1)) (2 ^ low f)) (sym p) v.0,
        λ o. v.1 (sym next ∙ o),
      )

-- a fraction with both its parts times k is the same value
pub times : (x : Float) (s : Bool) (a c k : ℕ) → HasValue x s a c → HasValue x s (a * k) (c * k)
times nan s a c k v = v
times (inf t) s a c k v = v
times (fin t m e) s a c k v = (
  v.0,
  sym (mul_assoc (m * up e) c k) ∙ ap (λ (x : ℕ). x * k) v.1 ∙ mul_right_comm a (down e) k,
)

-- ---- patterns that are no NaN's: without the sign at most the infinity's

pub not-nan-bits : (f : Format) (b : ℕ) → b % top f ≤ ones f * hid f → T (not (nan_bits f b))
not-nan-bits f b h =
    subst (λ (t : Bool). T (not t)) (sym (nan_bits_above f b))
    (le→nltb (ones f * hid f) (b % top f) h)

under_top : (f : Format) (b : ℕ) → b ≤ ones f * hid f → b % top f ≡ b
under_top f b h =
    mod-eq_of_lt (subst (λ (t : ℕ). suc b ≤ t) (mul_comm (suc (ones f)) (hid f))
    (lt_of_le_of_lt h (mul-lt-mul_of_pos_right (lt-suc_self (ones f)) (pow_pos (prec f - 1)))))

pub no_nan : (f : Format) (b : ℕ) → b ≤ ones f * hid f → T (not (nan_bits f b))
no_nan f b h = not-nan-bits f b (subst (λ (r : ℕ). r ≤ ones f * hid f) (sym (under_top f b h)) h)

pub no-nan-signed : (f : Format) (s : Bool) (b : ℕ)
    → b ≤ ones f * hid f
    → T (not (nan_bits f (cond s (top f) 0 + b)))
no-nan-signed f true b h =
    not-nan-bits f (top f + b)
    (subst (λ (r : ℕ). r ≤ ones f * hid f) (sym (add-mod_left (top f) b ∙ under_top f b h)) h)
no-nan-signed f false b h =
    subst (λ (x : ℕ). T (not (nan_bits f x))) (sym (zero-add b)) (no_nan f b h)

-- so is the pattern of a value that is none
pub in-range : (f : Format) (x : Float)
    → T (fits f x)
    → T (not (is_nan x))
    → to_bits f x % top f ≤ ones f * hid f
in-range f x h n =
    nltb→le (ones f * hid f) (to_bits f x % top f)
    (subst (λ (t : Bool). T (not t))
    (ap is_nan (sym (of_bits-to_bits f x h))
    ∙ sym (nan_bits_is f (to_bits f x))
    ∙ nan_bits_above f (to_bits f x)) n)

-- ---- values that are a NaN, or none

number : (x : Float) (b : Bool) → is_nan x ≡ false → (T b → x ≡ nan) → b ≡ false
unfolding is_nan
number x true e h = absurd (false≢true (sym e ∙ ap is_nan (h tt)))
number x false e h = refl

pub ne-self : (x : Float) → ne x x ≡ is_nan x
unfolding is_nan
ne-self nan = nan_differs
ne-self (inf s) = number (inf s) (ne (inf s) (inf s)) refl (differs_from_itself (inf s))
ne-self (fin s m e) =
    number (fin s m e) (ne (fin s m e) (fin s m e)) refl (differs_from_itself (fin s m e))

pub nan-of : (x : Float) → ne x x ≡ true → x ≡ nan
nan-of x h = differs_from_itself x (subst T (sym h) tt)

pub zero-over-zero : div binary64 (of_bits binary64 0) (of_bits binary64 0) ≡ nan
unfolding div of_bits
zero-over-zero = refl

pub not-nan : (x : Float) → ne x x ≡ false → T (not (is_nan x))
not-nan x = denied (ne-self x)

pub below-not-nan : (x y : Float) → lt x y ≡ true → T (not (is_nan x))
unfolding is_nan lt
below-not-nan nan y h = absurd (false≢true h)
below-not-nan (inf s) y h = tt
below-not-nan (fin s m e) y h = tt

pub finite-not-nan : (x : Float) → T (finite x) → T (not (is_nan x))
unfolding is_nan
finite-not-nan nan h = h
finite-not-nan (inf s) h = tt
finite-not-nan (fin s m e) h = tt

-- The sign of a value and of its bit pattern: a pattern with another's bit for the sign stands for
-- the value with that one's sign (`copysign-bits`), and the bit is the value's sign
-- (`negative-bits`). And what the test for NaN finds is it (`nan_is`). Assumes nothing.
use Prim.Native.Nat.{ℕ, zero, suc, ◌+◌, ◌*◌, ◌/◌, ◌%◌}
use mathlib.Core.Path.{◌≡◌, refl, sym, ap, ap₂, ◌∙◌, subst}
use mathlib.Core.Bool.{Bool, true, false, not, cond, false≢true}
use native.Mathlib.Nat.{mod-mod, mod-mod_of_dvd, dvd-mul_right}
use native.Mathlib.Nat.{add-mul-mod_self_right}
use lib.Dec.{T, leb, eqb}
use lib.Ieee.{Float, nan, inf, fin, Format, prec, low, hid, ones, top, odd, of_fields, of_bits, to_bits}
use lib.Ieee.{is_nan, fits}
use lib.Ieee.Bits.{of_bits-to_bits}
use Rattle.ieee754.specs.CopySign.{negative, copysign}

-- ---- the fields of a pattern
copysign-odd : (d : ℕ) (s : Bool) (q k l : ℕ) (y : Float)
    → copysign (odd d s q k l) y ≡ odd d (negative y) q k l
unfolding odd copysign
copysign-odd d s zero k l y = refl
copysign-odd d s (suc q) k l y = refl

copysign-fields : (f : Format) (s : Bool) (x t : ℕ) (y : Float)
    → copysign (of_fields f s x t) y ≡ of_fields f (negative y) x t
unfolding of_fields copysign
copysign-fields f s zero t y = copysign-odd (prec f) s t 0 (low f) y
copysign-fields f s (suc x) t y = go (eqb (suc x) (ones f)) (eqb t 0)
  where
    go : (a b : Bool)
        → copysign (cond a (cond b (inf s) nan) (odd (prec f) s (hid f + t) x (low f))) y
        ≡ cond a (cond b (inf (negative y)) nan) (odd (prec f) (negative y) (hid f + t) x (low f))
    go true true = refl
    go true false = refl
    go false b = copysign-odd (prec f) s (hid f + t) x (low f) y

negative-odd : (d : ℕ) (s : Bool) (q k l : ℕ) → negative (odd d s q k l) ≡ s
unfolding odd
negative-odd d s zero k l = refl
negative-odd d s (suc q) k l = refl

negative-fields : (f : Format) (s : Bool) (x t : ℕ)
    → T (not (is_nan (of_fields f s x t)))
    → negative (of_fields f s x t) ≡ s
unfolding of_fields is_nan
negative-fields f s zero t h = negative-odd (prec f) s t 0 (low f)
negative-fields f s (suc x) t h = go (eqb (suc x) (ones f)) (eqb t 0) h
  where
    go : (a b : Bool)
        → T (not (is_nan (cond a (cond b (inf s) nan) (odd (prec f) s (hid f + t) x (low f)))))
        → negative (cond a (cond b (inf s) nan) (odd (prec f) s (hid f + t) x (low f))) ≡ s
    go true true h = refl
    go true false h = absurd h
    go false b h = negative-odd (prec f) s (hid f + t) x (low f)

-- ---- a value by its pattern

-- n is x's pattern without the sign's bit, and with that of y's sign
pub copysign-bits : (f : Format) (x y : Float) (k : ℕ)
    → T (fits f x)
    → let n = to_bits f x % top f + k * top f in leb (top f) n ≡ negative y
    → of_bits f n ≡ copysign x y
unfolding of_bits
copysign-bits f x y k h s =
    let b = to_bits f x in
    let n = b % top f + k * top f in
    let upper : n % top f ≡ b % top f =
    add-mul-mod_self_right (b % top f) k (top f) ∙ mod-mod b (top f) in
    let lower : n % hid f ≡ b % hid f =
    sym (mod-mod_of_dvd _ n (dvd-mul_right (hid f) (suc (ones f))))
    ∙ ap (λ (z : ℕ). z % hid f) upper
    ∙ mod-mod_of_dvd _ b (dvd-mul_right (hid f) (suc (ones f))) in
    ap₂ (λ (u v : ℕ). of_fields f (leb (top f) n) (u / hid f) v) upper lower
    ∙ ap (λ (t : Bool). of_fields f t (b % top f / hid f) (b % hid f)) s
    ∙ sym (copysign-fields f (leb (top f) b) (b % top f / hid f) (b % hid f) y)
    ∙ ap (λ (v : Float). copysign v y) (of_bits-to_bits f x h)

pub negative-bits : (f : Format) (x : Float)
    → T (fits f x)
    → T (not (is_nan x))
    → leb (top f) (to_bits f x) ≡ negative x
unfolding of_bits
negative-bits f x h n =
    let b = to_bits f x in
    let e = of_bits-to_bits f x h in
    sym (negative-fields f (leb (top f) b) (b % top f / hid f) (b % hid f)
    (subst (λ (y : Float). T (not (is_nan y))) (sym e) n))
    ∙ ap negative e

-- ---- the one NaN
pub nan_is : (x : Float) → is_nan x ≡ true → x ≡ nan
unfolding is_nan
nan_is nan h = refl
nan_is (inf s) h = absurd (false≢true h)
nan_is (fin s m e) h = absurd (false≢true h)

-- A double is written in one way, so that two with the same sign and size are equal
-- (`fits-unique`), and what is exactly one is rounded to it (`round-own`). Assumes nothing.
use mathlib.Core.Path.{◌≡◌, refl, sym, ap, ◌∙◌, subst}
use Prim.Native.Nat.{ℕ, zero, suc, ◌+◌, ◌-◌, ◌*◌, ◌/◌, ◌%◌, ◌^◌, ◌≤◌, ◌<◌}
use native.Mathlib.Nat.{mul_assoc, mul_comm, mul_right_comm, mul-one, zero-mul, pow-succ', le_refl}
use native.Mathlib.Nat.{lt_of_lt_of_le, lt_of_le_of_lt, le_of_eq, zero-lt-suc}
use native.Mathlib.Nat.{mul-lt-mul_of_pos_right}
use native.Mathlib.Omega.{arith}
use mathlib.Core.Bool.{Bool, cond, ◌&&◌}
use lib.IntN.{ℤ, pos, negsuc}
use lib.Dec.{T, leb, ltb, eqb, leb→le, ltb→lt, eqb→eq}
use lib.Pow.{pow-add, pow_pos, pow-lt, pow_mono, shl_lt}
use lib.Ieee.{Float, nan, inf, fin, Format, binary64, prec, emax, low, top, hid, up, down, size}
use lib.Ieee.{round, fits, to_bits}
use lib.Ieee.Exact.{HasValue, round_exact}
use lib.Ieee.Fits.{down_pos, reach, and_l, and_r, round-fits}
use lib.Ieee.Nearest.{div_same}
use lib.Ieee.Bits.{of_bits-to_bits}
use Rattle.ieee754_parts.proofs.Sizes.{exponent_lt}

-- ---- what it takes to be a double other than zero
pub record Parts (m : ℕ) (e : ℤ) : Type 0 where
  pub odd : m % 2 ≡ 1
  pub short : m < 2 ^ 53
  pub lowest : down e ≤ 2 ^ 1074
  pub highest : m * up e < 2 ^ 1024 * down e

pub fits-parts : (s : Bool) (m : ℕ) (e : ℤ) → T (fits binary64 (fin s (suc m) e)) → Parts (suc m) e
unfolding fits
fits-parts s m e t =
    let a : Bool = eqb (suc m % 2) 1 in
    let b : Bool = ltb (suc m) (2 ^ 53) in
    let c : Bool = leb (down e) (2 ^ 1074) in
    let d : Bool = ltb (suc m * up e) (2 ^ 1024 * down e) in
    record {
      odd = eqb→eq (suc m % 2) 1 (and_l a b (and_l (a && b) c (and_l (a && b && c) d t)));
      short = ltb→lt (suc m) (2 ^ 53) (and_r a b (and_l (a && b) c (and_l (a && b && c) d t)));
      lowest = leb→le (down e) (2 ^ 1074) (and_r (a && b) c (and_l (a && b && c) d t));
      highest = ltb→lt (suc m * up e) (2 ^ 1024 * down e) (and_r (a && b && c) d t);
    }

-- ---- an odd number times a power of two is so in one way
pub odd-once : (m n a b : ℕ) → m % 2 ≡ 1 → n % 2 ≡ 1 → m * 2 ^ a ≡ n * 2 ^ b → (m ≡ n) × (a ≡ b)
odd-once m n zero zero o p h = (omega arith, refl)
odd-once m n zero (suc b) o p h = absurd (omega (arith, ap (λ (x : ℕ). n * x) (pow-succ' 2 b)))
odd-once m n (suc a) zero o p h = absurd (omega (arith, ap (λ (x : ℕ). m * x) (pow-succ' 2 a)))
odd-once m n (suc a) (suc b) o p h =
    let r =
    odd-once m n a b o p
    (omega (arith, ap (λ (x : ℕ). m * x) (pow-succ' 2 a), ap (λ (x : ℕ). n * x) (pow-succ' 2 b))) in
    (r.0, ap suc r.1)

-- with an exponent of either sign
pub odd-unique : (m n : ℕ) (e d : ℤ)
    → m % 2 ≡ 1
    → n % 2 ≡ 1
    → m * up e * down d ≡ n * up d * down e
    → (m ≡ n) × (e ≡ d)
odd-unique m n (pos a) (pos b) o p h =
    let r = odd-once m n a b o p (omega arith) in (r.0, ap pos r.1)
odd-unique m n (pos a) (negsuc b) o p h =
    absurd (omega (arith, ap (λ (x : ℕ). m * 2 ^ a * x) (pow-succ' 2 b)))
odd-unique m n (negsuc a) (pos b) o p h =
    absurd (omega (arith, ap (λ (x : ℕ). n * 2 ^ b * x) (pow-succ' 2 a)))
odd-unique m n (negsuc a) (negsuc b) o p h =
    let r =
    odd-once m n b a o p
    (omega (arith, ap (λ (x : ℕ). m * x) (pow-succ' 2 b), ap (λ (x : ℕ). n * x) (pow-succ' 2 a))) in
    (r.0, ap negsuc (sym r.1))

-- ---- two doubles with the same sign and size are equal: they have the same bit pattern
pub fits-unique : (f : Format) (s : Bool) (m : ℕ) (e : ℤ) (n : ℕ) (d : ℤ)
    → T (fits f (fin s m e))
    → T (fits f (fin s n d))
    → m * up e * down d ≡ n * up d * down e
    → fin s m e ≡ fin s n d
unfolding to_bits
fits-unique f s m e n d x y h =
    let l = 2 ^ low f in
    let same : m * up e * l / down e ≡ n * up d * l / down d =
    div_same (m * up e * l) (down e) (n * up d * l) (down d) (down_pos e) (down_pos d)
    (mul_right_comm (m * up e) l (down d)
    ∙ ap (λ (z : ℕ). z * l) h
    ∙ mul_right_comm (n * up d) (down e) l) in
    sym (of_bits-to_bits f (fin s m e) x)
    ∙ ap (λ (z : ℕ).
    lib.Ieee.of_bits f (cond s (top f) 0 + (size z - prec f) * hid f + z / 2 ^ (size z - prec f)))
    same
    ∙ of_bits-to_bits f (fin s n d) y

-- ---- what is exactly a double is rounded to it

-- a zero is written with the exponent 0
zero_exponent : (s : Bool) (k : ℕ) → T (fits binary64 (fin s 0 (negsuc k))) → ⊥
unfolding fits
zero_exponent s k h =
    let e = eqb→eq (1 * 2 ^ suc k) 1 h in omega (arith, pow-succ' 2 k, pow_pos k)

of-value : (f : Format) (y : Float) (s : Bool) (m : ℕ) (e : ℤ)
    → T (fits f y)
    → T (fits f (fin s m e))
    → HasValue y s (m * up e) (down e)
    → y ≡ fin s m e
of-value f nan s m e g h v = absurd v
of-value f (inf t) s m e g h v = absurd v
of-value f (fin t n d) s m e g h v =
    let k = v.0 in
    ap (λ (b : Bool). fin b n d) k
    ∙ fits-unique f s n d m e (subst (λ (b : Bool). T (fits f (fin b n d))) k g) h v.1

module _ (f : Format) (s : Bool) (m : ℕ) (short : m < 2 ^ prec f) where
  at-whole : (k : ℕ)
      → m * 2 ^ k < 2 ^ suc (emax f) * 1
      → HasValue (round f s (m * 2 ^ k) 1) s (m * 2 ^ k) 1
  at-whole k h =
      let both : m * 2 ^ k * 2 ^ low f ≡ m * 2 ^ (k + low f) =
      mul_assoc m (2 ^ k) (2 ^ low f) ∙ ap (λ (x : ℕ). m * x) (sym (pow-add 2 k (low f))) in
      let most : 2 ^ suc (emax f) * 1 * 2 ^ low f ≡ 2 ^ (low f + suc (emax f)) =
      ap (λ (x : ℕ). x * 2 ^ low f) (mul-one (2 ^ suc (emax f)))
      ∙ mul_comm (2 ^ suc (emax f)) (2 ^ low f)
      ∙ sym (pow-add 2 (low f) (suc (emax f))) in
      round_exact f s (m * 2 ^ k) 1 m (k + low f) (zero-lt-suc 0) short
      (lt_of_le_of_lt (le_of_eq (sym both))
      (lt_of_lt_of_le (mul-lt-mul_of_pos_right h (pow_pos (low f))) (le_of_eq most)))
      (both ∙ sym (mul-one (m * 2 ^ (k + low f))))

  at-fraction : (k : ℕ)
      → 2 ^ suc k ≤ 2 ^ low f
      → HasValue (round f s (m * 1) (2 ^ suc k)) s (m * 1) (2 ^ suc k)
  at-fraction k h =
      let within : suc k < suc (low f) =
      exponent_lt (suc k) (suc (low f)) h (pow-lt (le_refl (suc (low f)))) in
      let j = low f - suc k in
      let split : j + suc k ≡ low f = omega arith in
      round_exact f s (m * 1) (2 ^ suc k) m j (pow_pos (suc k)) short
      (lt_of_lt_of_le (shl_lt (prec f) j short) (pow_mono (omega (arith, reach f))))
      (ap (λ (x : ℕ). x * 2 ^ low f) (mul-one m)
      ∙ ap (λ (x : ℕ). m * 2 ^ x) (sym split)
      ∙ ap (λ (x : ℕ). m * x) (pow-add 2 j (suc k))
      ∙ sym (mul_assoc m (2 ^ j) (2 ^ suc k)))

exact : (s : Bool) (m : ℕ) (e : ℤ)
    → T (fits binary64 (fin s m e))
    → HasValue (round binary64 s (m * up e) (down e)) s (m * up e) (down e)
exact s zero (pos k) h =
    at-whole binary64 s 0 (pow_pos 53) k
    (lt_of_le_of_lt (le_of_eq (zero-mul (2 ^ k))) (pow_pos 1024))
exact s zero (negsuc k) h = absurd (zero_exponent s k h)
exact s (suc m) (pos k) h =
    let p = fits-parts s m (pos k) h in at-whole binary64 s (suc m) p.short k p.highest
exact s (suc m) (negsuc k) h =
    let p = fits-parts s m (negsuc k) h in
    at-fraction binary64 s (suc m) p.short k p.lowest

pub round-own : (s : Bool) (m : ℕ) (e : ℤ)
    → T (fits binary64 (fin s m e))
    → round binary64 s (m * up e) (down e) ≡ fin s m e
round-own s m e h =
    of-value binary64 (round binary64 s (m * up e) (down e)) s m e
    (round-fits binary64 s (m * up e) (down e)) h (exact s m e h)

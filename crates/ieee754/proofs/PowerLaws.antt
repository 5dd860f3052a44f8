-- Powers of whole numbers to any degree p: of a product and of a power, of a number moved up by k
-- digits, of an odd number, and how powers compare. Assumes nothing.
use Prim.Native.Nat.{ℕ, zero, suc, ◌+◌, ◌*◌, ◌%◌, ◌^◌, ◌≤◌, ◌<◌}
use mathlib.Core.Path.{◌≡◌, sym, ap, ◌∙◌}
use native.Mathlib.Nat.{le_trans, le_of_eq, lt_irrefl, lt_of_not-le, not-le_of_lt, mul-one, one-mul}
use native.Mathlib.Nat.{mul_comm, mul_assoc, mul_left_comm, mul-mul-mul_comm, mul-add, suc-mul}
use native.Mathlib.Nat.{mul-le-mul_right, lt_of_mul-lt-mul_right, pow-zero, pow-suc, one-le-pow}
use native.Mathlib.Nat.{pow-le-pow_left}
use native.Mathlib.Omega.{arith}
use lib.Pow.{pow-add}

-- ---- products and powers

pub pow-one : (x : ℕ) → x ^ 1 ≡ x
pow-one x = pow-suc x 0 ∙ ap (λ (y : ℕ). y * x) (pow-zero x) ∙ one-mul x

pub mul-pow : (a b p : ℕ) → (a * b) ^ p ≡ a ^ p * b ^ p
mul-pow a b zero = simp (pow-zero, mul-one)
mul-pow a b (suc p) = simp (pow-suc, mul-pow a b p, mul-mul-mul_comm)

pub pow-mul : (b k p : ℕ) → (b ^ k) ^ p ≡ b ^ (p * k)
pow-mul b k zero = pow-zero (b ^ k) ∙ sym (ap (λ (x : ℕ). b ^ x) (omega arith) ∙ pow-zero b)
pow-mul b k (suc p) =
    pow-suc (b ^ k) p
    ∙ ap (λ (x : ℕ). x * b ^ k) (pow-mul b k p)
    ∙ sym (pow-add b (p * k) k)
    ∙ ap (λ (x : ℕ). b ^ x) (sym (suc-mul p k))

-- ---- powers of two among the factors

-- a number moved up by k digits
pub pow-shift : (p x k : ℕ) → x ^ p * 2 ^ (p * k) ≡ (x * 2 ^ k) ^ p
pow-shift p x k = ap (λ (y : ℕ). x ^ p * y) (sym (pow-mul 2 k p)) ∙ sym (mul-pow x (2 ^ k) p)

-- with a factor c
pub raised : (p x k c : ℕ) → x ^ p * (c * 2 ^ (p * k)) ≡ (x * 2 ^ k) ^ p * c
raised p x k c =
    ap (λ (y : ℕ). x ^ p * y) (mul_comm c (2 ^ (p * k)))
    ∙ sym (mul_assoc (x ^ p) (2 ^ (p * k)) c)
    ∙ ap (λ (y : ℕ). y * c) (pow-shift p x k)

pub double-pow : (p x c : ℕ) → 2 ^ p * (x ^ p * c) ≡ (2 * x) ^ p * c
double-pow p x c = sym (mul_assoc (2 ^ p) (x ^ p) c) ∙ ap (λ (y : ℕ). y * c) (sym (mul-pow 2 x p))

-- the p-th power of 2 ^ (a + k)
pub split-pow : (p a k c : ℕ) → 2 ^ (p * (a + k)) * c ≡ 2 ^ (p * a) * (c * 2 ^ (p * k))
split-pow p a k c = simp (mul-add, pow-add, mul_assoc, mul_comm, mul_left_comm)

-- a power of an odd number is odd
pub odd_pow : (p w : ℕ) → (2 * w + 1) ^ p % 2 ≡ 1
odd_pow zero w = ap (λ (x : ℕ). x % 2) (pow-zero (2 * w + 1))
odd_pow (suc p) w =
    ap (λ (x : ℕ). x % 2) (pow-suc (2 * w + 1) p) ∙ step ((2 * w + 1) ^ p) (odd_pow p w)
  where
    step : (x : ℕ) → x % 2 ≡ 1 → x * (2 * w + 1) % 2 ≡ 1
    step x h = omega arith

-- ---- order

pub zero-pow : (p : ℕ) → 0 < p → 0 ^ p ≡ 0
zero-pow zero h = omega arith
zero-pow (suc p) h = pow-suc 0 p ∙ omega arith

pub le-pow : (p x : ℕ) → 0 < p → 0 < x → x ≤ x ^ p
le-pow zero x P X = absurd (lt_irrefl 0 P)
le-pow (suc p) x P X =
    le_trans (le_of_eq (sym (one-mul x)))
    (le_trans (mul-le-mul_right x (one-le-pow p x X)) (le_of_eq (sym (pow-suc x p))))

-- a power is below another only if its base is
pub base-lt : (p x y : ℕ) → x ^ p < y ^ p → x < y
base-lt p x y h = lt_of_not-le (λ (g : y ≤ x). not-le_of_lt h (pow-le-pow_left g p))

pub pow-back : (p c x y : ℕ) → x ^ p * c < y ^ p * c → x < y
pow-back p c x y h = base-lt p x y (lt_of_mul-lt-mul_right c h)

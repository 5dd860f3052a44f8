-- How many binary digits a number has, and a number moved up to the top of a word. Assumes nothing.
use Rattle.std.proofs.Common.{◌≡◌, ℕ, suc, ◌+◌, ◌-◌, ◌*◌, ◌/◌, ◌%◌, ◌^◌, ◌<◌, ◌≤◌, sym, ap, ◌∙◌, subst, ap₂, ⊎_elim, le_trans, le_of_eq, lt_of_lt_of_le, add-zero, mul-le-mul_right, mul_assoc, div-lt_iff_lt-mul, lt_of_not-le, not-le_of_lt, arith, pow_pos, pow_mono, pow-add, shl_lt, shr_lt}
use native.Mathlib.Nat.{mul-mod_left}
use lib.Pow.{shl-shr, mod-pow-add}
use lib.Count.{count_leading_zeros, leading_top}
use lib.Ieee.{size}
use lib.Ieee.Digits.{size-lt, size-le}
use Rattle.ieee754_parts.proofs.Tests.{lt-or-ge}

-- moved up by i digits, and then by j
pub shl-shl : (a i j k : ℕ) → i + j ≡ k → a * 2 ^ i * 2 ^ j ≡ a * 2 ^ k
shl-shl a i j k h =
    mul_assoc a (2 ^ i) (2 ^ j)
    ∙ ap (λ (x : ℕ). a * x) (sym (pow-add 2 i j) ∙ ap (λ (x : ℕ). 2 ^ x) h)

-- moved up by j digits, of k + j it keeps the lowest k
pub moved : (k j n : ℕ) → n * 2 ^ j % 2 ^ (k + j) ≡ n % 2 ^ k * 2 ^ j
moved k j n =
    mod-pow-add (n * 2 ^ j) k j
    ∙ ap₂ (λ (x y : ℕ). x % 2 ^ k * 2 ^ j + y) (shl-shr n j) (mul-mod_left n (2 ^ j))
    ∙ add-zero (n % 2 ^ k * 2 ^ j)

-- a number of no less than 2 ^ i is below 2 ^ j only where i is below j
pub exponent_lt : {n : ℕ} (i j : ℕ) → 2 ^ i ≤ n → n < 2 ^ j → i < j
exponent_lt i j l h = lt_of_not-le (λ (g : j ≤ i). not-le_of_lt h (le_trans (pow_mono g) l))

-- so it has more than i digits
pub size-gt : (n i : ℕ) → 2 ^ i ≤ n → i < size n
size-gt n i h = exponent_lt i (size n) h (size-lt n)

-- what is left once j digits are cut off
pub size-shr : (n j : ℕ) → size (n / 2 ^ j) ≡ size n - j
size-shr n j =
    let m = n / 2 ^ j in
    let a : m < 2 ^ (size n - j) =
    shr_lt (size n - j) j (lt_of_lt_of_le (size-lt n) (pow_mono (omega arith))) in
    let b : n < 2 ^ (size m + j) =
    subst (λ (x : ℕ). n < x) (sym (pow-add 2 (size m) j))
    ((div-lt_iff_lt-mul (pow_pos j)).0 (size-lt m)) in
    omega (arith, size-le m (size n - j) a, size-le n (size m + j) b)

-- the digits that n drops to keep p
pub size-drop : (p n k : ℕ)
    → 0 < p
    → n < 2 ^ (p + k)
    → (0 < k → 2 ^ (p - 1 + k) ≤ n)
    → size n - p ≡ k
size-drop p n k P h l =
    ⊎_elim (λ (z : k < 1). omega (arith, size-le n (p + k) h))
    (λ (z : 0 < k). omega (arith, size-le n (p + k) h, size-gt n (p - 1 + k) (l z)))
    (lt-or-ge k 1)

-- ---- n, of at most d digits, moved up in a word of w digits until it has d
module _ (w d n : ℕ) (some : 0 < n) (short : n < 2 ^ d) (room : d ≤ w) where
  -- its top digit is j
  top : (j : ℕ) × (count_leading_zeros w n + suc j ≡ w) × (2 ^ j ≤ n) × (n < 2 ^ suc j)
  top = leading_top w n some (lt_of_lt_of_le short (pow_mono room))

  top_lt : top.0 < d
  top_lt = exponent_lt top.0 d top.2 short

  pub zeros-lt : count_leading_zeros w n < w
  zeros-lt = omega (arith, top.1)

  pub zeros-ge : w - d ≤ count_leading_zeros w n
  zeros-ge = omega (arith, top.1, top_lt)

  pub zeros-le : (i : ℕ) → 2 ^ i ≤ n → count_leading_zeros w n + i < w
  zeros-le i h = omega (arith, top.1, exponent_lt i (suc top.0) h top.3)

  -- by s digits
  module _ (s : ℕ) (shift : s + (w - d) ≡ count_leading_zeros w n) where
    pub shifted-ge : 2 ^ (d - 1) ≤ n * 2 ^ s
    shifted-ge =
        let e : d - 1 ≡ top.0 + s = omega (arith, top.1, top_lt) in
        le_trans (le_of_eq (ap (λ (x : ℕ). 2 ^ x) e))
        (le_trans (le_of_eq (pow-add 2 top.0 s)) (mul-le-mul_right (2 ^ s) top.2))

    pub shifted-lt : n * 2 ^ s < 2 ^ d
    shifted-lt =
        let e : suc top.0 + s ≡ d = omega (arith, top.1, top_lt) in
        subst (λ (x : ℕ). n * 2 ^ s < 2 ^ x) e (shl_lt (suc top.0) s top.3)

-- A third without a division, of a number of two digits to any base b that is one more than a
-- multiple of three, 3 * t + 1, as 2 ^ 32 is. Assumes nothing.
use Rattle.std.proofs.Common.{◌≡◌, ℕ, suc, ◌+◌, ◌*◌, ◌/◌, ◌%◌, ◌<◌, ◌≤◌, ap, ◌∙◌, mul-le-mul_right, mod-lt, div-lt_iff_lt-mul, add-mul, div-add-mod', arith}
use native.Mathlib.Nat.{add-mul-div_left}
use lib.Arith.{digits_div}

-- a bound on the sum of the digits, to any base
pub digits_sum : (b k n : ℕ) → 0 < b → n < k * b → n / b + n % b + 2 ≤ k + b
digits_sum b k n pos l =
    let high : n / b < k = (div-lt_iff_lt-mul pos).1 l in
    omega (arith, high, mod-lt n pos)

-- the third of n by the third of the sum of its digits
digits-third : (b t n : ℕ) → b ≡ suc (3 * t) → n / b * t + (n / b + n % b) / 3 ≡ n / 3
digits-third b t n base =
    let h = n / b in
    let s = h + n % b in
    let whole : s + 3 * (h * t) ≡ n =
    omega (arith, div-add-mod' n b, ap (λ (x : ℕ). h * x) base) in
    let three : 0 < 3 = omega arith in
    omega (arith, add-mul-div_left s (h * t) three, ap (λ (x : ℕ). x / 3) whole)

-- the third of an n below p - 2 by one product, where 3 * m is p + 1
product-third : (m p n : ℕ) → 3 * m ≡ suc p → n + 2 < p → n * m / p ≡ n / 3
product-third m p n e l =
    let q = n / 3 in
    let r = n % 3 in
    let parts : n * m ≡ q * p + (q + r * m) =
    omega (arith, ap (λ (x : ℕ). x * m) (div-add-mod' n 3), ap (λ (x : ℕ). q * x) e) in
    let two : r ≤ 2 = omega arith in
    let below : q + r * m < p = omega (arith, mul-le-mul_right m two) in
    ap (λ (x : ℕ). x / p) parts ∙ digits_div q below

-- n of two digits, the sum s of its digits, and the sum r of those of s, which is at most b
module _ (b t : ℕ)
    (base : b ≡ suc (3 * t))
    (n s r : ℕ)
    (size : n < b * b)
    (first : s ≡ n / b + n % b)
    (second : r ≡ s / b + s % b) where
  pub second-sum : r ≤ b
  second-sum =
      let pos : 0 < b = omega arith in
      let once : s + 2 ≤ b + b = omega (arith, digits_sum b b n pos size) in
      let twice = digits_sum b 2 s pos (omega arith) in
      omega (arith, twice)

  pub thirds : (m p : ℕ)
      → 3 * m ≡ suc p
      → b + 2 < p
      → (n / b + s / b) * t + r * m / p ≡ n / 3
  thirds m p inverse room =
      let of-n : n / b * t + s / 3 ≡ n / 3 = rw first (digits-third b t n base) in
      let of-s : s / b * t + r / 3 ≡ s / 3 = rw second (digits-third b t s base) in
      let of-r = product-third m p r inverse (omega (arith, second-sum)) in
      omega (arith, of-n, of-s, of-r, add-mul (n / b) (s / b) t)

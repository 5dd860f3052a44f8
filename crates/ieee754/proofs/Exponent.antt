-- The root of a significand times a power of two: its digits and its exponent, said once for every
-- degree p. Assumes nothing.
use Prim.Native.Nat.{ℕ, ◌+◌, ◌-◌, ◌*◌, ◌/◌, ◌%◌, ◌^◌, ◌≤◌, ◌<◌}
use mathlib.Core.Path.{◌≡◌, sym, ap, ◌∙◌, subst}
use mathlib.Core.Bool.{Bool}
use native.Mathlib.Nat.{le_trans, le_of_eq, lt_of_lt_of_le, mul_assoc, mul_comm, mul_left_comm}
use native.Mathlib.Nat.{mul-le-mul_right, mul-pos, mod-lt, div-add-mod}
use native.Mathlib.Omega.{arith}
use lib.Dec.{lit<}
use lib.Pow.{pow-add, pow_pos, shl_lt}
use lib.Ieee.{Float, binary64, units}
use lib.Ieee.Exact.{HasValue}
use Rattle.ieee754.specs.Root.{round_root}
use Rattle.ieee754.proofs.RootLaws.{round_root-at, nearest-ge, nearest-le}
use Rattle.ieee754_roots.specs.Nearest.{IsNearest}
use Rattle.ieee754_roots.proofs.Moved.{moved}
use Rattle.ieee754_parts.specs.Normal.{IsNormal}
use Rattle.ieee754.specs.Types.{Scaled}
use Rattle.ieee754_parts.proofs.Reading.{times}

-- a significand moved up, times 2 ^ (52 * (p - 1)), has as many digits as makes 53 digits of its
-- root
digits-ge : (p n : ℕ) → 0 < p → 2 ^ 52 ≤ n → 2 ^ (p * 52) ≤ n * 2 ^ (52 * (p - 1))
digits-ge p n P h =
    let e : p * 52 ≡ 52 + 52 * (p - 1) = omega arith in
    le_trans (le_of_eq (ap (λ (x : ℕ). 2 ^ x) e ∙ pow-add 2 52 (52 * (p - 1))))
    (mul-le-mul_right (2 ^ (52 * (p - 1))) h)

digits_lt : (p n : ℕ) → 0 < p → n < 2 ^ (52 + p) → n * 2 ^ (52 * (p - 1)) < 2 ^ (p * 53)
digits_lt p n P h =
    let e : 52 + p + 52 * (p - 1) ≡ p * 53 = omega arith in
    lt_of_lt_of_le (shl_lt (52 + p) (52 * (p - 1)) h) (le_of_eq (ap (λ (x : ℕ). 2 ^ x) e))

regroup : (m a b c d h k : ℕ) → a * b ≡ c * d → m * a * (b * (h * k)) ≡ m * c * h * (k * d)
regroup m a b c d h k e =
    simp (mul_assoc, mul_comm, mul_left_comm)
    (simp (mul_assoc, mul_comm, mul_left_comm) at (ap (λ (z : ℕ). m * (h * k) * z) e))

-- The p-th root of m * 2 ^ e / 2 ^ 1126. In p-th powers of the smallest double the radicand is n
-- times that of 2 ^ k, with n of the size above, and k the exponent, more by `bias`, divided by p.
module _ (p bias m e : ℕ) (P : 0 < p) (gap : p * 1074 ≡ bias + (52 * (p - 1) + 1126))
    (low : 2 ^ 52 ≤ m) (high : m < 2 ^ 53) where
  k : ℕ
  k = (e + bias) / p

  n : ℕ
  n = m * 2 ^ ((e + bias) % p) * 2 ^ (52 * (p - 1))

  range : (2 ^ 52 ≤ m * 2 ^ ((e + bias) % p)) × (m * 2 ^ ((e + bias) % p) < 2 ^ (52 + p))
  range = moved p m ((e + bias) % p) low high (mod-lt (e + bias) P)

  ge : 2 ^ (p * 52) ≤ n
  unfolding n
  ge = digits-ge p (m * 2 ^ ((e + bias) % p)) P range.0

  lt : n < 2 ^ (p * 53)
  unfolding n
  lt = digits_lt p (m * 2 ^ ((e + bias) % p)) P range.1

  -- 2 ^ (e + bias), by its remainder and its quotient
  split : 2 ^ e * 2 ^ bias ≡ 2 ^ ((e + bias) % p) * 2 ^ (p * ((e + bias) / p))
  split =
      sym (pow-add 2 e bias)
      ∙ ap (λ (x : ℕ). 2 ^ x) (omega (arith, div-add-mod (e + bias) p))
      ∙ pow-add 2 ((e + bias) % p) (p * ((e + bias) / p))

  radicand : m * 2 ^ e * 2 ^ (p * 1074) ≡ n * (2 ^ 1126 * 2 ^ (p * k))
  unfolding n k
  radicand =
      ap (λ (x : ℕ). m * 2 ^ e * x)
      (ap (λ (x : ℕ). 2 ^ x) gap
      ∙ pow-add 2 bias (52 * (p - 1) + 1126)
      ∙ ap (λ (x : ℕ). 2 ^ bias * x) (pow-add 2 (52 * (p - 1)) 1126))
      ∙ regroup m (2 ^ e) (2 ^ bias) (2 ^ ((e + bias) % p)) (2 ^ (p * ((e + bias) / p)))
      (2 ^ (52 * (p - 1))) (2 ^ 1126) split

  -- the digits q of the root
  module _ (q : ℕ) (near : IsNearest p (m * 2 ^ ((e + bias) % p) * 2 ^ (52 * (p - 1))) q) where
    pub root_ge : 2 ^ 52 ≤ q
    unfolding n
    root_ge = nearest-ge p 52 n q ge near

    pub root-le : q ≤ 2 ^ 53
    unfolding n
    root-le = nearest-le p 53 n q lt near

    pub root-scaled : (s : Bool)
        → round_root p binary64 s (m * 2 ^ e) (2 ^ 1126) ≡ units binary64 s q ((e + bias) / p)
    unfolding n k
    root-scaled s =
        round_root-at p binary64 s (m * 2 ^ e) (2 ^ 1126) k n q P (lit< tt) radicand ge lt near

-- ---- the value of a double with the significand that `normalise` gives
module _ (x : Float) (s : Bool) (sig exp : ℕ) (r : Scaled)
    (is : HasValue x s (sig * 2 ^ exp) (2 ^ 1074)) (h : IsNormal sig exp r) where
  pub normal-value : HasValue x s (r.sig * 2 ^ r.exp) (2 ^ 1126)
  normal-value =
      subst (λ (a : ℕ). HasValue x s a (2 ^ 1126))
      (sym h.same) (times x s (sig * 2 ^ exp) (2 ^ 1074) (2 ^ 52) is)

  pub normal_pos : 0 < r.sig * 2 ^ r.exp
  normal_pos = mul-pos (lt_of_lt_of_le (lit< tt) h.low) (pow_pos r.exp)

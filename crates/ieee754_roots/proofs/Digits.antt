-- A square root found digit by digit: what `by_digits` keeps from turn to turn, over any number
-- whose root is sought. Assumes nothing.
use Prim.Native.Nat.{ℕ, zero, suc, ◌+◌, ◌-◌, ◌*◌, ◌/◌, ◌^◌, ◌≤◌, ◌<◌}
use mathlib.Core.Path.{◌≡◌, ap, subst}
use native.Mathlib.Nat.{two-pow-succ, lt_of_mul-lt-mul_right, mul-lt-mul_of_pos_right}
use native.Mathlib.Omega.{arith}
use lib.Pow.{pow_pos}
use Rattle.ieee754_roots.specs.Nearest.{IsNearest}
use Rattle.ieee754_roots.proofs.Squares.{nearest-square}

-- Of the root of n the digits from the weight `bit` up come to q, and `rest * bit` is what is left
-- of n once the square of q is taken off.
pub record Found (n q bit rest : ℕ) : Type 0 where
  pub power : (j : ℕ) × (bit ≡ 2 ^ j)
  pub some : 0 < q
  pub taken : rest * bit + q * q ≡ n
  pub left : n < (q + bit) * (q + bit)

-- what is left is small
pub rest_lt : {n q bit rest : ℕ} → Found n q bit rest → rest < q + q + bit
rest_lt {bit = bit} d = lt_of_mul-lt-mul_right bit (omega arith)

-- ---- the next digit has half the weight

halved : (j b : ℕ) → b ≡ 2 ^ j → 1 < b → ((i : ℕ) × (b / 2 ≡ 2 ^ i)) × (b ≡ b / 2 + b / 2)
halved zero b e h = absurd (omega arith)
halved (suc j) b e h = ((j, omega (arith, two-pow-succ j)), omega (arith, two-pow-succ j))

-- the digit is 1, or 0, by whether the square of q + h is at most n, h being the digit's weight
one-taken : (n q h rest : ℕ)
    → rest * (h + h) + q * q ≡ n
    → q * 2 + h ≤ rest * 2
    → (rest * 2 - (q * 2 + h)) * h + (q + h) * (q + h) ≡ n
one-taken n q h rest e l =
    let s : rest * 2 - (q * 2 + h) + (q * 2 + h) ≡ rest * 2 = omega arith in
    omega (arith, ap (λ (x : ℕ). x * h) s)

zero_left : (n q h rest : ℕ)
    → rest * (h + h) + q * q ≡ n
    → rest * 2 < q * 2 + h
    → 0 < h
    → n < (q + h) * (q + h)
zero_left n q h rest e l p = omega (arith, mul-lt-mul_of_pos_right l p)

module _ {n q bit rest : ℕ} (d : Found n q bit rest) (more : 1 < bit) where
  h : ℕ
  h = bit / 2

  half : ((i : ℕ) × (h ≡ 2 ^ i)) × (bit ≡ h + h)
  unfolding h
  half = halved d.power.0 bit d.power.1 more

  was : rest * (h + h) + q * q ≡ n
  was = subst (λ (b : ℕ). rest * b + q * q ≡ n) half.1 d.taken

  pub one : q * 2 + bit / 2 ≤ rest * 2
      → Found n (q + bit / 2) (bit / 2) (rest * 2 - (q * 2 + bit / 2))
  unfolding h
  one l = record {
    power = half.0;
    some = omega arith;
    taken = one-taken n q h rest was l;
    left = subst (λ (b : ℕ). n < b * b) (omega (arith, half.1)) d.left;
  }

  pub none : rest * 2 < q * 2 + bit / 2 → Found n q (bit / 2) (rest * 2)
  unfolding h
  none l = record {
    power = half.0;
    some = d.some;
    taken = omega (arith, was);
    left = zero_left n q h rest was l (omega arith);
  }

-- ---- with the last digit, of the weight 1, the root is rounded by what is left

pub last : {n q bit rest : ℕ} → Found n q bit rest → bit ≤ 1 → Found n q 1 rest
last {n} {q} {bit} {rest} d h =
    subst (λ (b : ℕ). Found n q b rest) (omega (arith, pow_pos d.power.0)) d

pub up : {n q rest : ℕ} → Found n q 1 rest → q < rest → IsNearest 2 n (q + 1)
up {n} {q} d h = nearest-square n (q + 1) (omega arith) (omega arith)

pub down : {n q rest : ℕ} → Found n q 1 rest → rest ≤ q → IsNearest 2 n q
down {n} {q} d h = nearest-square n q (omega arith) (omega arith)

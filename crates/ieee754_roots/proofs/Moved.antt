-- A significand moved up by less than p digits keeps them all in a word, so the number nearest to
-- its root is found from that word. Assumes nothing.
use Prim.Native.Nat.{ℕ, ◌+◌, ◌-◌, ◌*◌, ◌%◌, ◌^◌, ◌≤◌, ◌<◌}
use mathlib.Core.Path.{◌≡◌, sym, subst}
use native.Mathlib.Nat.{le_trans, lt_of_lt_of_le, le-mul_of_pos_right}
use native.Mathlib.Omega.{arith}
use lib.Pow.{pow_pos, pow_mono, shl_lt, shl_exact}
use Rattle.ieee754_roots.specs.Nearest.{IsNearest}

-- a significand of 53 digits, moved up by less than p
pub moved : (p m t : ℕ)
    → 2 ^ 52 ≤ m
    → m < 2 ^ 53
    → t < p
    → (2 ^ 52 ≤ m * 2 ^ t) × (m * 2 ^ t < 2 ^ (52 + p))
moved p m t l h o = (
  le_trans l (le-mul_of_pos_right m (pow_pos t)),
  lt_of_lt_of_le (shl_lt 53 t h) (pow_mono (omega arith)),
)

-- so in a word it loses no digit
module _ (p m t : ℕ) (low : 2 ^ 52 ≤ m) (high : m < 2 ^ 53) (less : t < p) (room : p ≤ 12) where
  exact : m * 2 ^ t % 2 ^ 64 ≡ m * 2 ^ t
  exact = shl_exact 53 t 64 high (omega arith)

  pub moved-range : let n = m * 2 ^ t % 2 ^ 64 in (2 ^ 52 ≤ n) × (n < 2 ^ (52 + p))
  moved-range =
      subst (λ (n : ℕ). (2 ^ 52 ≤ n) × (n < 2 ^ (52 + p))) (sym exact) (moved p m t low high less)

  pub moved-nearest : {q : ℕ}
      → IsNearest p (m * 2 ^ t % 2 ^ 64 * 2 ^ (52 * (p - 1))) q
      → IsNearest p (m * 2 ^ t * 2 ^ (52 * (p - 1))) q
  moved-nearest {q} h = subst (λ (n : ℕ). IsNearest p (n * 2 ^ (52 * (p - 1))) q) exact h

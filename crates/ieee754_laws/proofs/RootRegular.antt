-- No root of a double is irregular: `sqrt-regular`, `cbrt-regular`. The p-th root of a double lies
-- within the range from 2 ^ -1022 up and below 2 ^ 1024 - 2 ^ 970 for each p above 1. Assumes
-- nothing.
use Prim.Native.Nat.{ℕ, zero, suc, ◌-◌, ◌*◌, ◌^◌, ◌≤◌, ◌<◌}
use native.Mathlib.Nat.{le_trans, le_of_eq, lt_of_lt_of_le, zero-lt-suc, zero-mul, mul_comm}
use native.Mathlib.Nat.{mul-pos, mul-le-mul_left, le-mul_of_pos_right}
use mathlib.Core.Bool.{Bool, true, false}
use lib.IntN.{ℤ}
use lib.Dec.{T, leb, ltb, eqb, le→leb, lt→ltb, lit≤}
use lib.Ieee.{Float, nan, inf, fin, binary64, up, down, fits}
use lib.Ieee.Fits.{up_pos, and_i, eq→eqb}
use Rattle.ieee754.specs.Traced.{in_range, sqrt_regular, cbrt_regular}
use Rattle.ieee754.proofs.Tests.{or_left, or_right}
use Rattle.ieee754.proofs.Unique.{fits-parts}

-- the two ends of the range, and the p-th powers that they have to reach
root-regular : (p : ℕ)
    → 2 ^ 1074 ≤ 2 ^ (p * 1022)
    → 2 ^ 1024 ≤ (2 ^ 1024 - 2 ^ 970) ^ p
    → (s : Bool) (m : ℕ) (e : ℤ)
    → T (fits binary64 (fin s m e))
    → T (in_range p (m * up e) (down e))
unfolding in_range
root-regular p lo hi s zero e t = or_left (eqb (zero * up e) 0) _ (eq→eqb (zero-mul (up e)))
root-regular p lo hi s (suc m) e t =
    let h = fits-parts s m e t in
    let a = suc m * up e in
    let c = down e in
    let least : c ≤ a * 2 ^ (p * 1022) =
    le_trans (le_trans h.lowest lo) (le_trans
    (le-mul_of_pos_right (2 ^ (p * 1022)) (mul-pos (zero-lt-suc m) (up_pos e)))
    (le_of_eq (mul_comm (2 ^ (p * 1022)) a))) in
    let most : a < c * (2 ^ 1024 - 2 ^ 970) ^ p =
    lt_of_lt_of_le h.highest
    (le_trans (le_of_eq (mul_comm (2 ^ 1024) c)) (mul-le-mul_left c hi)) in
    or_right (eqb a 0) _ (and_i (leb c (a * 2 ^ (p * 1022))) (ltb a (c * (2 ^ 1024 - 2 ^ 970) ^ p))
    (le→leb c (a * 2 ^ (p * 1022)) least) (lt→ltb a (c * (2 ^ 1024 - 2 ^ 970) ^ p) most))

pub sqrt-regular : (x : Float) → T (fits binary64 x) → T (sqrt_regular x)
unfolding sqrt_regular
sqrt-regular nan t = tt
sqrt-regular (inf s) t = tt
sqrt-regular (fin true m e) t = tt
sqrt-regular (fin false m e) t = root-regular 2 (lit≤ tt) (lit≤ tt) false m e t

pub cbrt-regular : (x : Float) → T (fits binary64 x) → T (cbrt_regular x)
unfolding cbrt_regular
cbrt-regular nan t = tt
cbrt-regular (inf s) t = tt
cbrt-regular (fin s m e) t = root-regular 3 (lit≤ tt) (lit≤ tt) s m e t

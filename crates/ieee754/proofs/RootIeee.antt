-- The `sqrt` of lib.Ieee is this crate's, at every double: `ieee-sqrt`. It rounds a number r that
-- is the root taken to 2271 binary places, and r lies among the numbers of 2270 places as the root
-- does (`twice`). Half of the smallest double is one of those, so the two are rounded alike.
-- Assumes nothing.
use Prim.Native.Nat.{ℕ, zero, suc, ◌+◌, ◌-◌, ◌*◌, ◌/◌, ◌^◌, ◌≤◌, ◌<◌, compare, Ordering}
use mathlib.Core.Path.{◌≡◌, refl, sym, ap, ap₂, ◌∙◌, subst}
use mathlib.Core.Logic.{⊎_elim}
use mathlib.Core.Bool.{Bool, true, false, cond}
use native.Mathlib.Nat.{le_trans, lt_of_lt_of_le, lt_of_le_of_lt, mul_assoc, mul_comm, mul_left_comm}
use native.Mathlib.Nat.{mul-one, one-mul, div-one, zero-lt-suc, lt-suc_self, mul-div_cancel, pow-suc}
use native.Mathlib.Nat.{sub-add_cancel, le_of_suc-le-suc, mul-le-mul}
use native.Mathlib.Omega.{arith}
use lib.Arith.{lt_of_le-ne}
use lib.Dec.{T, eqb, eqb→eq}
use lib.IntN.{ℤ, pos, negsuc}
use lib.Pow.{pow-add, pow_pos, pow-lt}
use lib.Ieee
use lib.Ieee.{Float, nan, inf, fin, binary64, up, down, size, fits, root_below, root_twice}
use lib.Ieee.Fits.{down_pos, eq→eqb}
use lib.Ieee.Root.{Root, whole_part}
use Rattle.std.proofs.lemmas.Nat.{mul-lt}
use Rattle.ieee754.specs.Root.{sqrt}
use Rattle.ieee754_parts.proofs.Tests.{lt-or-ge}
use Rattle.ieee754_parts.proofs.Nearest.{Compared, compared, compare-is, compare-mul}
use Rattle.ieee754_parts.proofs.Sizes.{shl-shl, exponent_lt}
use Rattle.ieee754.proofs.PowerLaws.{pow-one}
use Rattle.ieee754.proofs.RootValues.{round_root-one}
use Rattle.ieee754.proofs.RootAlike.{Alike, round_root-alike}
use Rattle.ieee754.proofs.Unique.{fits-parts}

-- ---- the number that lib.Ieee rounds

squares : (o : Ordering) (r z : ℕ) → Compared o r z → Compared o (r * r) (z * z)
squares Ordering.lt r z h = mul-lt r r z z h h
squares Ordering.eq r z h = ap (λ (x : ℕ). x * x) h
squares Ordering.gt r z h = mul-lt z z r r h h

doubles : (o : Ordering) (r z : ℕ) → Compared o r z → Compared o (2 * r + 0) (2 * z)
doubles Ordering.lt r z h = omega arith
doubles Ordering.eq r z h = omega arith
doubles Ordering.gt r z h = omega arith

square-le : {r z : ℕ} → r ≤ z → r * r ≤ z * z
square-le h = mul-le-mul h h

-- it is twice the root of t where that is whole, and else between twice its two neighbours
twice : (t z : ℕ) → compare (root_twice t) (2 * z) ≡ compare t (z * z)
unfolding root_twice
twice t z = go (eqb (r * r) t) refl (whole_part t)
  where
    r : ℕ
    r = root_below (size t) t

    go : (b : Bool)
        → eqb (r * r) t ≡ b
        → Root r t
        → compare (2 * r + cond b 0 1) (2 * z) ≡ compare t (z * z)
    go true e h =
        compare-is (2 * r + 0) (2 * z) (compare r z) (doubles (compare r z) r z (compared r z))
        ∙ sym (compare-is (r * r) (z * z) (compare r z) (squares (compare r z) r z (compared r z)))
        ∙ ap (λ (x : ℕ). compare x (z * z)) (eqb→eq (r * r) t (subst T (sym e) tt))
    go false e h =
        ⊎_elim (λ (l : r < z).
        compare-is (2 * r + 1) (2 * z) Ordering.lt (omega arith)
        ∙ sym (compare-is t (z * z) Ordering.lt
        (lt_of_lt_of_le h.1 (square-le (omega arith)))))
        (λ (g : z ≤ r).
        compare-is (2 * r + 1) (2 * z) Ordering.gt (omega arith)
        ∙ sym (compare-is t (z * z) Ordering.gt
        (lt_of_le_of_lt (square-le g)
        (lt_of_le-ne h.0 (λ (x : r * r ≡ t). subst T e (eq→eqb x))))))
        (lt-or-ge r z)

square : (y : ℕ) → y ^ 2 ≡ y * y
square y = pow-suc y 1 ∙ ap (λ (x : ℕ). x * y) (pow-one y)

four : 2 ^ 2 ≡ 2 * 2
four = refl

-- ---- it lies among the halves of the smallest value, 2 ^ -l, as the root of a / c does
module _ (a c t r i l : ℕ) (C : 0 < c) (is : t * c ≡ a * 2 ^ (i + i + (2 + 2 * l)))
    (near : (z : ℕ) → compare r (2 * z) ≡ compare t (z * z)) where
  alike : Alike 1 (r * 2 ^ (1 * l)) (2 ^ (i + (2 + l))) 2 (a * 2 ^ (2 * l)) c
  alike y =
      let z = y * 2 ^ i in
      let n : 2 ^ 1 * (r * 2 ^ (1 * l)) ≡ r * (2 * 2 ^ l) =
      simp (pow-one, one-mul, mul_left_comm) in
      let m : y ^ 1 * 2 ^ (i + (2 + l)) ≡ 2 * z * (2 * 2 ^ l) =
      simp (pow-one, pow-add, four, mul_assoc, mul_left_comm) in
      let s : t * c ≡ 2 ^ 2 * (a * 2 ^ (2 * l)) * 2 ^ (i + i) =
      is ∙ simp (pow-add, four, mul_assoc, mul_comm, mul_left_comm) in
      let q : z * z * c ≡ y ^ 2 * c * 2 ^ (i + i) =
      simp (square, pow-add, mul_assoc, mul_comm, mul_left_comm) in
      ap₂ (λ (u v : ℕ). compare u v) n m
      ∙ compare-mul r (2 * z) (2 * 2 ^ l) (omega (arith, pow_pos l))
      ∙ near z
      ∙ sym (compare-mul t (z * z) c C)
      ∙ ap₂ (λ (u v : ℕ). compare u v) s q
      ∙ compare-mul (2 ^ 2 * (a * 2 ^ (2 * l))) (y ^ 2 * c) (2 ^ (i + i)) (pow_pos (i + i))

-- ---- the quotient is whole
quotient : (a N : ℕ) (e : ℤ)
    → down e ≤ 2 ^ 1074
    → 1074 ≤ N
    → a * 2 ^ N / down e * down e ≡ a * 2 ^ N
quotient a N (pos k) h g = mul-one (a * 2 ^ N / 1) ∙ div-one (a * 2 ^ N)
quotient a N (negsuc k) h g =
    let few : suc k ≤ 1074 =
    le_of_suc-le-suc (exponent_lt (suc k) 1075 h (pow-lt (lt-suc_self 1074))) in
    let e : a * 2 ^ (N - suc k) * 2 ^ suc k ≡ a * 2 ^ N =
    shl-shl a (N - suc k) (suc k) N (sub-add_cancel (le_trans few g)) in
    ap (λ (x : ℕ). x / 2 ^ suc k * 2 ^ suc k) (sym e)
    ∙ ap (λ (x : ℕ). x * 2 ^ suc k) (mul-div_cancel (a * 2 ^ (N - suc k)) (pow_pos (suc k)))
    ∙ e

-- ---- a zero is written with the exponent 0
zero-is : (s : Bool) (e : ℤ) → T (fits binary64 (fin s 0 e)) → fin s 0 (pos 0) ≡ fin s 0 e
unfolding fits
zero-is s (pos zero) h = refl
zero-is s (pos (suc k)) h =
    let e = eqb→eq (2 ^ suc k * 1) 1 h in absurd (omega (arith, pow-suc 2 k, pow_pos k))
zero-is s (negsuc k) h =
    let e = eqb→eq (1 * 2 ^ suc k) 1 h in absurd (omega (arith, pow-suc 2 k, pow_pos k))

pub ieee-sqrt : (x : Float) → T (fits binary64 x) → lib.Ieee.sqrt binary64 x ≡ sqrt x
unfolding lib.Ieee.sqrt sqrt
ieee-sqrt nan h = refl
ieee-sqrt (inf true) h = refl
ieee-sqrt (inf false) h = refl
ieee-sqrt (fin s zero e) h = zero-is s e h
ieee-sqrt (fin true (suc m) e) h = refl
ieee-sqrt (fin false (suc m) e) h =
    let a = suc m * up e in
    let c = down e in
    let t = a * 2 ^ 4542 / c in
    let r = root_twice t in
    sym (round_root-one binary64 false r (2 ^ 2272) (pow_pos 2272))
    ∙ round_root-alike 1 2 binary64 false r (2 ^ 2272) a c (zero-lt-suc 0) (zero-lt-suc 1)
    (pow_pos 2272) (down_pos e) (alike a c t r 1196 1074 (down_pos e)
    (quotient a 4542 e (fits-parts false m e h).lowest (omega arith)) (twice t))

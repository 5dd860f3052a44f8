-- Where 2 ^ k times a double is taken: not at infinities and NaN (`scalable-infinite`), at every
-- zero (`scalable-zero`), and else by the exponent of its 53 digits (`scalable-exponent`). Assumes
-- nothing.
use Prim.Native.Nat.{ℕ, zero, suc, ◌+◌, ◌*◌, ◌^◌, ◌≤◌, ◌<◌}
use mathlib.Core.Path.{◌≡◌, refl, sym, ap, ap₂, ◌∙◌, subst}
use mathlib.Core.Logic.{◌↔◌}
use mathlib.Core.Bool.{Bool, true, false, not, ◌&&◌}
use native.Mathlib.Nat.{le_trans, le_of_eq, lt_of_lt_of_le, zero-lt-suc, mul-pos}
use native.Mathlib.Nat.{le_of_mul-le-mul_right, lt_of_mul-lt-mul_right, mul-le-mul_right}
use native.Mathlib.Nat.{mul-lt-mul_of_pos_right, eq_of_mul-eq-mul_right}
use native.Mathlib.Omega.{arith}
use lib.Dec.{T, leb, ltb, leb-suc-suc, eqb-suc-zero}
use lib.IntN.{ℤ, pos, ◌+ℤ◌}
use lib.Pow.{pow-add, pow_pos, pow_mono, shl_lt}
use lib.Ieee.{Float, nan, inf, fin, up, down}
use lib.Ieee.Exact.{HasValue}
use lib.Ieee.Fits.{up_pos, down_pos}
use lib.Ieee.Scale.{finite}
use Rattle.ieee754_parts.proofs.Sizes.{shl-shl, exponent_lt}
use Rattle.ieee754_parts.proofs.Tests.{same_test}
use Rattle.ieee754_laws.proofs.Powers.{moved-ratio}
use Rattle.scaleb.specs.Scalable.{scalable}

-- ---- what has no exponent
pub scalable-infinite : (k : ℤ) (x : Float) → T (not (finite x)) → scalable k x ≡ false
unfolding scalable
scalable-infinite k nan h = refl
scalable-infinite k (inf s) h = refl
scalable-infinite k (fin s m e) h = absurd h

pub scalable-zero : (k : ℤ) (s : Bool) (e : ℤ) → scalable k (fin s 0 e) ≡ true
unfolding scalable
scalable-zero k s e = refl

pub scalable-nothing : (k : ℤ) (x : Float) (s : Bool) (a c : ℕ)
    → a ≡ 0
    → 0 < c
    → HasValue x s a c
    → scalable k x ≡ true
scalable-nothing k nan s a c z C v = absurd v
scalable-nothing k (inf t) s a c z C v = absurd v
scalable-nothing k (fin t zero e) s a c z C v = scalable-zero k t e
scalable-nothing k (fin t (suc m) e) s a c z C v =
    absurd (omega (
      arith,
      v.1,
      ap (λ (n : ℕ). n * down e) z,
      mul-pos (mul-pos (zero-lt-suc m) (up_pos e)) C,
    ))

-- ---- two tests that agree
le_test : (a b c d : ℕ) → ((a ≤ b) ↔ (c ≤ d)) → leb a b ≡ leb c d
le_test a b c d h =
    sym (leb-suc-suc a b)
    ∙ same_test a (suc b) c (suc d) (
      λ (l : a < suc b). let m = h.0 (omega arith) in omega arith,
      λ (l : c < suc d). let m = h.1 (omega arith) in omega arith,
    )
    ∙ leb-suc-suc c d

-- ---- A / D is q * 2 ^ j / 2 ^ w, with q of 53 digits
module _ (A D q j w : ℕ) (some : 0 < D) (is : A * 2 ^ w ≡ q * 2 ^ j * D) (low : 2 ^ 52 ≤ q)
    (high : q < 2 ^ 53) where
  digits-ge : 2 ^ (52 + j) ≤ q * 2 ^ j
  digits-ge = le_trans (le_of_eq (pow-add 2 52 j)) (mul-le-mul_right (2 ^ j) low)

  digits_lt : q * 2 ^ j < 2 ^ (53 + j)
  digits_lt = shl_lt 53 j high

  -- it is 2 ^ -a at least
  least : (a b : ℕ) → 2 ^ a * 2 ^ b ≡ 2 ^ w → (D ≤ A * 2 ^ a) ↔ (b < 53 + j)
  least a b e =
      let same : A * 2 ^ a * 2 ^ b ≡ q * 2 ^ j * D =
      omega (arith, ap (λ (z : ℕ). A * z) e, is) in (
        λ (l : D ≤ A * 2 ^ a).
            let units : 2 ^ b ≤ q * 2 ^ j =
            le_of_mul-le-mul_right (omega (arith, mul-le-mul_right (2 ^ b) l, same)) some in
            exponent_lt b (53 + j) units digits_lt,
        λ (l : b < 53 + j).
            let units : 2 ^ b ≤ q * 2 ^ j =
            le_trans (pow_mono (omega arith)) digits-ge in
            le_of_mul-le-mul_right (omega (arith, mul-le-mul_right D units, same)) (pow_pos b),
      )

  -- it is below 2 ^ a
  most : (a b : ℕ) → 2 ^ a * 2 ^ w ≡ 2 ^ b → (A < 2 ^ a * D) ↔ (52 + j < b)
  most a b e =
      let same : 2 ^ a * D * 2 ^ w ≡ 2 ^ b * D = omega (arith, ap (λ (z : ℕ). z * D) e) in (
        λ (l : A < 2 ^ a * D).
            let units : q * 2 ^ j < 2 ^ b =
            lt_of_mul-lt-mul_right D
            (omega (arith, mul-lt-mul_of_pos_right l (pow_pos w), same, is)) in
            exponent_lt (52 + j) b digits-ge units,
        λ (l : 52 + j < b).
            let units : q * 2 ^ j < 2 ^ b =
            lt_of_lt_of_le digits_lt (pow_mono (omega arith)) in
            lt_of_mul-lt-mul_right (2 ^ w)
            (omega (arith, mul-lt-mul_of_pos_right units some, same, is)),
      )

-- ---- the exponent k adds its count u from -64 to that of the digits
up-counted : (k : ℤ) (u : ℕ) → pos u ≡ k +ℤ pos 64 → up k * 2 ^ 64 ≡ 2 ^ u * down k
up-counted k u is =
    let cross : 1 * up (pos u) * (down k * 1) ≡ 1 * up k * (down (pos u) * 2 ^ 64) =
    subst (λ (z : ℤ). 1 * up z * (down k * 1) ≡ 1 * up k * (down z * 2 ^ 64)) (sym is)
    (moved-ratio (pos 64) 1 k).cross in
    omega (arith, cross)

-- A / D' is 2 ^ k times a / D, where a / D is Q / W and 2 ^ k is U / B and N / S
counted : (A a D D' U B W S Q N : ℕ)
    → 0 < D
    → 0 < B
    → A * (D * B) ≡ a * (D' * U)
    → a * W ≡ Q * D
    → U * S ≡ N * B
    → A * (W * S) ≡ Q * N * D'
counted A a D D' U B W S Q N some some' times is by =
    eq_of_mul-eq-mul_right (D * B) (mul-pos some some') (A * (W * S)) (Q * N * D') (omega (
      arith,
      ap (λ (z : ℕ). z * (W * S)) times,
      ap (λ (z : ℕ). z * (D' * U * S)) is,
      ap (λ (z : ℕ). Q * D * D' * z) by,
    ))

module _ (k : ℤ) (u : ℕ) (counts : pos u ≡ k +ℤ pos 64) (q i : ℕ) where
  scaled_value : (m : ℕ) (e : ℤ)
      → suc m * up e * 2 ^ 1126 ≡ q * 2 ^ i * down e
      → suc m * up (e +ℤ k) * 2 ^ 1190 ≡ q * 2 ^ (i + u) * down (e +ℤ k)
  scaled_value m e v =
      counted (suc m * up (e +ℤ k)) (suc m * up e) (down e) (down (e +ℤ k)) (up k) (down k)
      (2 ^ 1126) (2 ^ 64) (q * 2 ^ i) (2 ^ u) (down_pos e) (down_pos k)
      (moved-ratio k (suc m) e).cross v (up-counted k u counts)
      ∙ ap (λ (z : ℕ). z * down (e +ℤ k)) (shl-shl q i u (i + u) refl)

  module _ (low : 2 ^ 52 ≤ q) (high : q < 2 ^ 53) where
    tests : (A D : ℕ)
        → 0 < D
        → A * 2 ^ 1190 ≡ q * 2 ^ (i + u) * D
        → leb D (A * 2 ^ 1022) && ltb A (2 ^ 1024 * D)
        ≡ leb 116 (i + u) && leb (i + u) 2161
    tests A D some is =
        let j = i + u in
        let l = least A D q j 1190 some is low high 1022 168 refl in
        let h = most A D q j 1190 some is low high 1024 2214 refl in
        ap₂ ◌&&◌
        (le_test D (A * 2 ^ 1022) 116 j (
          λ (g : D ≤ A * 2 ^ 1022). let m = l.0 g in omega (arith, m),
          λ (g : 116 ≤ j). l.1 (omega arith),
        ))
        (le_test (suc A) (2 ^ 1024 * D) j 2161 (
          λ (g : A < 2 ^ 1024 * D). let m = h.0 g in omega (arith, m),
          λ (g : j ≤ 2161). h.1 (omega arith),
        ))

    -- a double of 53 digits
    pub scalable-exponent : (x : Float) (s : Bool)
        → HasValue x s (q * 2 ^ i) (2 ^ 1126)
        → scalable k x ≡ leb 116 (i + u) && leb (i + u) 2161
    unfolding scalable
    scalable-exponent nan s v = absurd v
    scalable-exponent (inf t) s v = absurd v
    scalable-exponent (fin t zero e) s v = absurd (nothing (up e) (2 ^ 1126) v.1)
      where
        nothing : (n c : ℕ) → 0 * n * c ≡ q * 2 ^ i * down e → ⊥
        nothing n c h =
            omega (
              arith,
              h,
              mul-pos (mul-pos (lt_of_lt_of_le (pow_pos 52) low) (pow_pos i)) (down_pos e),
            )
    scalable-exponent (fin t (suc m) e) s v =
        rw (eqb-suc-zero m) (tests (suc m * up (e +ℤ k)) (down (e +ℤ k)) (down_pos (e +ℤ k))
        (scaled_value m e v.1))

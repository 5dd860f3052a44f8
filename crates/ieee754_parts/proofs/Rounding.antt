-- What `round` sees of a number n over 2 ^ (u + low f): its digits as far down as half of the last
-- one that it keeps, and below them only whether all are 0. So a number that was cut short by `jam`
-- rounds as the whole number does, provided enough digits are kept. In n's own scale the format's
-- smallest value is 2 ^ u. A word of 64 digits is rounded to 53 (`round-word`), and a number
-- between two bounds to the value that is nearest to both (`round-between`). Assumes nothing.
use Rattle.std.proofs.Common.{◌≡◌, ℕ, suc, ◌+◌, ◌-◌, ◌*◌, ◌/◌, ◌%◌, ◌^◌, ◌<◌, ◌≤◌, min, Bool, ◌⊎◌, ◌↔◌, sym, refl, ap, ◌∙◌, subst, inl, inr, ⊎_elim, le_trans, le_of_eq, lt_of_le_of_lt, mul-le-mul_right, mod-lt, zero-lt-suc, mul_assoc, add-mul, le_antisymm, suc-add, mul-pos, div-add-mod', le-div_iff_mul-le, zero-mul, arith, pow_pos, pow-add, shl_lt, shr_lt}
use Prim.Native.Nat.{compare}
use native.Mathlib.Nat.{pow-succ'}
use lib.Arith.{lt-one}
use lib.Pow.{high}
use lib.Ieee.{Format, binary64, prec, low, size, units, round}
use lib.Ieee.Fits.{round_is, nearest-le}
use lib.Ieee.Nearest.{closest, closest_mono, closest_same, div_same, nearest-ge}
use Rattle.ieee754_parts.specs.Jam.{jam}
use Rattle.ieee754_parts.proofs.Jam.{jam-is, jam-exact}
use Rattle.ieee754_parts.proofs.Nearest.{closest-sees, nearest-below, nearest-above}
use Rattle.ieee754_parts.proofs.Tests.{lt-or-ge}
use Rattle.ieee754_parts.proofs.Sizes.{shl-shl, size-gt, size-shr, size-drop}

-- ---- `round` in n's own scale

-- how many digits of n / 2 ^ u the format drops
abbrev drop : Format → ℕ → ℕ → ℕ
drop f u n = size (n / 2 ^ u) - prec f

round-at : (f : Format) (s : Bool) (u n : ℕ)
    → round f s n (2 ^ (u + low f)) ≡ units f s (closest n (2 ^ (u + drop f u n))) (drop f u n)
round-at f s u n =
    let l = low f in
    let d = drop f u n in
    let e : n * 2 ^ l * 2 ^ u ≡ n * 2 ^ (u + l) = shl-shl n l u (u + l) (omega arith) in
    let k : size (n * 2 ^ l / 2 ^ (u + l)) - prec f ≡ d =
    ap (λ (x : ℕ). size x - prec f)
    (div_same (n * 2 ^ l) (2 ^ (u + l)) n (2 ^ u) (pow_pos (u + l)) (pow_pos u) e) in
    let g : n * 2 ^ l * 2 ^ (u + d) ≡ n * (2 ^ (u + l) * 2 ^ d) =
    ap (λ (x : ℕ). n * 2 ^ l * x) (pow-add 2 u d)
    ∙ sym (mul_assoc (n * 2 ^ l) (2 ^ u) (2 ^ d))
    ∙ ap (λ (x : ℕ). x * 2 ^ d) e
    ∙ mul_assoc n (2 ^ (u + l)) (2 ^ d) in
    round_is f s n (2 ^ (u + l))
    ∙ ap (λ (z : ℕ). units f s (closest (n * 2 ^ l) (2 ^ (u + l) * 2 ^ z)) z) k
    ∙ ap (λ (z : ℕ). units f s z d) (closest_same (n * 2 ^ l) (2 ^ (u + l) * 2 ^ d) n (2 ^ (u + d))
    (mul-pos (pow_pos (u + l)) (pow_pos d)) (pow_pos (u + d)) g)

-- ---- a number whose digits from 2 ^ g on are h

-- enough digits are known: 2 ^ g is below the smallest value, or h has more digits than the format
abbrev Enough : Format → ℕ → ℕ → ℕ → Type 0
Enough f u g h = (g < u) ⊎ (2 ^ prec f ≤ h)

-- then h alone says how many are dropped, and half of the last one that is kept is 2 ^ g or more
drop_block : (f : Format) (u g h r : ℕ)
    → r < 2 ^ g
    → Enough f u g h
    → drop f u (h * 2 ^ g + r) ≡ size h + g - u - prec f
drop_block f u g h r l k =
    let n = h * 2 ^ g + r in
    let a = size-shr n u in
    let b : size h ≡ size n - g = ap size (sym (high h g l)) ∙ size-shr n g in
    ⊎_elim (λ (x : g < u). omega arith)
    (λ (x : 2 ^ prec f ≤ h). omega (arith, size-gt h (prec f) x))
    k

half-unit : (f : Format) (u g h : ℕ)
    → Enough f u g h
    → suc (u + (size h + g - u - prec f) - suc g) + g ≡ u + (size h + g - u - prec f)
half-unit f u g h k =
    ⊎_elim (λ (x : g < u). omega arith)
    (λ (x : 2 ^ prec f ≤ h). omega (arith, size-gt h (prec f) x))
    k

-- two such numbers round alike, if the rest of both is 0 or of neither
round-sees : (f : Format) (s : Bool) (u g h r t : ℕ)
    → r < 2 ^ g
    → t < 2 ^ g
    → ((r ≡ 0) ↔ (t ≡ 0))
    → Enough f u g h
    → round f s (h * 2 ^ g + r) (2 ^ (u + low f)) ≡ round f s (h * 2 ^ g + t) (2 ^ (u + low f))
round-sees f s u g h r t l m z k = at r l ∙ ap (λ (x : ℕ). units f s x d) same ∙ sym (at t m)
  where
    d : ℕ
    d = size h + g - u - prec f

    at : (x : ℕ)
        → x < 2 ^ g
        → round f s (h * 2 ^ g + x) (2 ^ (u + low f))
        ≡ units f s (closest (h * 2 ^ g + x) (2 ^ (u + d))) d
    at x y =
        round-at f s u (h * 2 ^ g + x)
        ∙ ap (λ (e : ℕ). units f s (closest (h * 2 ^ g + x) (2 ^ (u + e))) e)
        (drop_block f u g h x y k)

    same : closest (h * 2 ^ g + r) (2 ^ (u + d)) ≡ closest (h * 2 ^ g + t) (2 ^ (u + d))
    same =
        subst (λ (e : ℕ). closest (h * 2 ^ g + r) (2 ^ e) ≡ closest (h * 2 ^ g + t) (2 ^ e))
        (half-unit f u g h k) (closest-sees (u + d - suc g) g h r t l m z)

-- ---- the sticky law: a number that was cut short rounds as the whole number

-- a number is 0 exactly if its mark is, whatever the two count
marked : (r a b : ℕ) → 0 < a → 0 < b → (r * a ≡ 0) ↔ (min 1 r * b ≡ 0)
marked r a b A B =
    ⊎_elim (λ (l : r < 1). let z = lt-one l in (λ x. rw z (zero-mul b), λ x. rw z (zero-mul a)))
    (λ (g : 1 ≤ r). (
      λ x. let p = mul-pos g A in omega arith,
      λ x. let p : 0 < min 1 r * b = mul-pos (omega arith) B in omega arith,
    )) (lt-or-ge r 1)

cut_short : (f : Format) (s : Bool) (u e k n : ℕ)
    → Enough f u (suc k + e) (n / 2 ^ suc k)
    → round f s (jam k n * 2 ^ (k + e)) (2 ^ (u + low f)) ≡ round f s (n * 2 ^ e) (2 ^ (u + low f))
cut_short f s u e k n x =
    let h = n / 2 ^ suc k in
    let r = n % 2 ^ suc k in
    let full : h * 2 ^ (suc k + e) + r * 2 ^ e ≡ n * 2 ^ e =
    rw (
      pow-add 2 (suc k) e,
      ← mul_assoc h (2 ^ suc k) (2 ^ e),
      ← add-mul (h * 2 ^ suc k) r (2 ^ e),
      div-add-mod' n (2 ^ suc k),
    ) in
    let short : h * 2 ^ (suc k + e) + min 1 r * 2 ^ (k + e) ≡ jam k n * 2 ^ (k + e) =
    rw (
      suc-add k e,
      pow-succ' 2 (k + e),
      ← mul_assoc h 2 (2 ^ (k + e)),
      ← add-mul (h * 2) (min 1 r) (2 ^ (k + e)),
      jam-is k n,
    ) in
    let small : min 1 r * 2 ^ (k + e) < 2 ^ (suc k + e) =
    subst (λ (y : ℕ). min 1 r * 2 ^ (k + e) < 2 ^ y)
    (omega arith) (shl_lt {a = min 1 r} 1 (k + e) (omega arith)) in
    ap (λ (y : ℕ). round f s y (2 ^ (u + low f))) (sym short)
    ∙ sym (round-sees f s u (suc k + e) h (r * 2 ^ e) (min 1 r * 2 ^ (k + e))
    (shl_lt (suc k) e (mod-lt n (pow_pos (suc k)))) small
    (marked r (2 ^ e) (2 ^ (k + e)) (pow_pos e) (pow_pos (k + e))) x)
    ∙ ap (λ (y : ℕ). round f s y (2 ^ (u + low f))) full

-- what is cut off lies below half of the smallest value; or two digits more than the format has are
-- left; or nothing is cut off
pub data Kept (f : Format) (u e k n : ℕ) : Type 0 where
  fine : suc k + e < u → Kept f u e k n
  long : 2 ^ suc (prec f) ≤ jam k n → Kept f u e k n
  exact : n % 2 ^ suc k ≡ 0 → Kept f u e k n

pub round-jam : (f : Format) (s : Bool) (u e k n : ℕ)
    → Kept f u e k n
    → round f s (jam k n * 2 ^ (k + e)) (2 ^ (u + low f)) ≡ round f s (n * 2 ^ e) (2 ^ (u + low f))
round-jam f s u e k n (fine x) = cut_short f s u e k n (inl x)
round-jam f s u e k n (long x) =
    cut_short f s u e k n (inr (omega (arith, jam-is k n, pow-succ' 2 (prec f))))
round-jam f s u e k n (exact x) =
    ap (λ (y : ℕ). round f s y (2 ^ (u + low f)))
    (sym (shl-shl (jam k n) k e (k + e) refl) ∙ ap (λ (y : ℕ). y * 2 ^ e) (jam-exact k n x))

-- ---- k digits are dropped of a number v below 2 ^ (53 + k + 1092) that is, unless k is 0, no less
-- than half of that; j and x are parts of the exponent
drop_at : (v k j x : ℕ)
    → j + x ≡ 52 + k + 1092
    → v < 2 ^ (suc j + x)
    → (0 < k → 2 ^ j * 2 ^ x ≤ v)
    → drop binary64 1092 v ≡ k
drop_at v k j x e hi lo =
    let least : 2 ^ (52 + k) * 2 ^ 1092 ≡ 2 ^ j * 2 ^ x =
    sym (pow-add 2 (52 + k) 1092) ∙ ap (λ (i : ℕ). 2 ^ i) (sym e) ∙ pow-add 2 j x in
    let most : v < 2 ^ (53 + k + 1092) = subst (λ (i : ℕ). v < 2 ^ i) (omega (arith, e)) hi in
    size-drop 53 (v / 2 ^ 1092) k (zero-lt-suc 52) (shr_lt (53 + k) 1092 most)
    (λ z. (le-div_iff_mul-le (pow_pos 1092)).1 (le_trans (le_of_eq least) (lo z)))

-- ---- a word w of 64 digits, with its top digit set or at the lowest exponent, is rounded to 53 of
-- them
module _ (s : Bool) (w k : ℕ) (short : w < 2 ^ 64) (full : 0 < k → 2 ^ 63 ≤ w) where
  drop-word : drop binary64 1092 (w * 2 ^ (k + 1081)) ≡ k
  drop-word =
      drop_at (w * 2 ^ (k + 1081)) k 63 (k + 1081) (omega arith) (shl_lt 64 (k + 1081) short)
      (λ z. mul-le-mul_right (2 ^ (k + 1081)) (full z))

  pub round-word :
      round binary64 s (w * 2 ^ (k + 1081)) (2 ^ 2166) ≡ units binary64 s (closest w (2 ^ 11)) k
  round-word =
      let n = w * 2 ^ (k + 1081) in
      let e : n * 2 ^ 11 ≡ w * 2 ^ (1092 + k) = shl-shl w (k + 1081) 11 (1092 + k) (omega arith) in
      round-at binary64 s 1092 n
      ∙ ap (λ (d : ℕ). units binary64 s (closest n (2 ^ (1092 + d))) d) drop-word
      ∙ ap (λ (q : ℕ). units binary64 s q k)
      (closest_same n (2 ^ (1092 + k)) w (2 ^ 11) (pow_pos (1092 + k)) (pow_pos 11) e)

-- ---- a number v whose leading 63 digits lie from w to w + m, where q is nearest to both ends

near : (w q : ℕ) → q * 2 ^ 10 < w + 2 ^ 9 → w < q * 2 ^ 10 + 2 ^ 9 → closest w (2 ^ 10) ≡ q
near w q a b =
    ⊎_elim (λ (l : w % 2 ^ 10 < 2 ^ 9).
    nearest-below (w / 2 ^ 10) (w % 2 ^ 10 * 2) (2 ^ 10) (omega arith) ∙ omega arith)
    (λ (g : 2 ^ 9 ≤ w % 2 ^ 10).
    nearest-above (w / 2 ^ 10) (w % 2 ^ 10 * 2) (2 ^ 10) (omega arith) ∙ omega arith)
    (lt-or-ge (w % 2 ^ 10) (2 ^ 9))

module _ (s : Bool) (w m q k v : ℕ) (full : 2 ^ 62 ≤ w) (short : q < 2 ^ 53)
    (above : q * 2 ^ 10 < w + 2 ^ 9) (below : w + m < q * 2 ^ 10 + 2 ^ 9)
    (from : w * 2 ^ (k + 1082) ≤ v) (to : v ≤ (w + m) * 2 ^ (k + 1082)) where
  drop-between : drop binary64 1092 v ≡ k
  drop-between =
      drop_at v k 62 (k + 1082) (omega arith)
      (lt_of_le_of_lt to (shl_lt 63 (k + 1082) (omega arith)))
      (λ z. le_trans (mul-le-mul_right (2 ^ (k + 1082)) full) from)

  closest-between : closest v (2 ^ (1092 + k)) ≡ q
  closest-between =
      let at : (x : ℕ) → x * 2 ^ (k + 1082) * 2 ^ 10 ≡ x * 2 ^ (1092 + k) =
      λ x. shl-shl x (k + 1082) 10 (1092 + k) (omega arith) in
      let least : closest w (2 ^ 10) ≤ closest v (2 ^ (1092 + k)) =
      closest_mono w (2 ^ 10) v (2 ^ (1092 + k)) (pow_pos 10) (pow_pos (1092 + k))
      (le_trans (le_of_eq (sym (at w))) (mul-le-mul_right (2 ^ 10) from)) in
      let most : closest v (2 ^ (1092 + k)) ≤ closest (w + m) (2 ^ 10) =
      closest_mono v (2 ^ (1092 + k)) (w + m) (2 ^ 10) (pow_pos (1092 + k)) (pow_pos 10)
      (le_trans (mul-le-mul_right (2 ^ 10) to) (le_of_eq (at (w + m)))) in
      le_antisymm
      (le_trans most (le_of_eq (near (w + m) q (omega arith) below)))
      (le_trans (le_of_eq (sym (near w q above (omega arith)))) least)

  pub round-between : round binary64 s v (2 ^ 2166) ≡ units binary64 s q k
  round-between =
      round-at binary64 s 1092 v
      ∙ ap (λ (d : ℕ). units binary64 s (closest v (2 ^ (1092 + d))) d) drop-between
      ∙ ap (λ (x : ℕ). units binary64 s x k) closest-between

-- what is left of it has 53 digits, or is 2 ^ 53
pub closest-le : (w : ℕ) → w < 2 ^ 64 → closest w (2 ^ 11) ≤ 2 ^ 53
closest-le w short = omega (arith, nearest-le (w / 2 ^ 11) (compare (w % 2 ^ 11 * 2) (2 ^ 11)))

pub closest-ge : (w : ℕ) → 2 ^ 63 ≤ w → 2 ^ 52 ≤ closest w (2 ^ 11)
closest-ge w full = omega (arith, nearest-ge (w / 2 ^ 11) (compare (w % 2 ^ 11 * 2) (2 ^ 11)))

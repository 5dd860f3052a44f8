-- Laws of `jam`, by which a number is cut short with a mark for what was cut off: how it goes
-- through sums and differences with whole multiples of what is kept, and through another cut.
-- Assumes nothing.
use Rattle.std.proofs.Common.{◌≡◌, ℕ, suc, ◌+◌, ◌-◌, ◌*◌, ◌/◌, ◌%◌, ◌^◌, ◌<◌, ◌≤◌, min, max, ◌↔◌, sym, refl, ap, ◌∙◌, subst, ap₂, ⊎_elim, lt_of_lt_of_le, le_of_lt, mul-le-mul_right, mod-lt, mod-eq_of_lt, mul_assoc, suc-mul, div-lt_iff_lt-mul, add-mul, suc-add, mul-pos, pow-suc, div-add-mod', le-div_iff_mul-le, mul-div_cancel, add-one, one-add, arith, pow_pos, pow_mono, pow-add, shr-shr, shr_lt}
use native.Mathlib.Nat.{two-pow-succ}
use native.Mathlib.Nat.{mul-mod_left, zero-div, zero-mod}
use native.Mathlib.Nat.{div-eq_of_lt, mul-add-div_right}
use native.Mathlib.Nat.{mul-add-mod_self_right, pow-succ'}
use native.Mathlib.Nat.{div-div-eq-div-mul}
use lib.Arith.{digits_lt, digits_div, digits_mod, lt-one}
use lib.Bits.{bit_or, or_step, or_zero_r}
use lib.Pow.{mod-pow-add}
use Rattle.ieee754_parts.specs.Jam.{jam}
use Rattle.ieee754_parts.proofs.Tests.{lt-or-ge}
use Rattle.ieee754_parts.proofs.Sizes.{shl-shl, moved}

-- what is kept, and the mark
pub jam-is : (k n : ℕ) → jam k n ≡ n / 2 ^ suc k * 2 + min 1 (n % 2 ^ suc k)
unfolding jam
jam-is k n = refl

jam-zero : (k : ℕ) → jam k 0 ≡ 0
jam-zero k = omega (arith, jam-is k 0, zero-div (2 ^ suc k), zero-mod (2 ^ suc k))

-- ---- with a whole multiple of what is kept, a * 2 ^ (k + 1)

pub jam-add : (k a n : ℕ) → jam k (a * 2 ^ suc k + n) ≡ a * 2 + jam k n
jam-add k a n =
    let e : (a * 2 ^ suc k + n) / 2 ^ suc k ≡ a + n / 2 ^ suc k =
    mul-add-div_right (pow_pos (suc k)) a n in
    let f : (a * 2 ^ suc k + n) % 2 ^ suc k ≡ n % 2 ^ suc k =
    mul-add-mod_self_right a (2 ^ suc k) n in
    jam-is k (a * 2 ^ suc k + n) ∙ rw (e, f, jam-is k n) (omega arith)

-- a number is below the multiple exactly if what is kept is, and above it too
pub jam-below : (k a n : ℕ) → (n < a * 2 ^ suc k) ↔ (jam k n < a * 2)
jam-below k a n =
    let i : (n / 2 ^ suc k < a) ↔ (n < a * 2 ^ suc k) = div-lt_iff_lt-mul (pow_pos (suc k)) in
    let e = jam-is k n in
    (λ l. let m = i.1 l in omega arith, λ l. i.0 (omega arith))

pub jam-above : (k a n : ℕ) → (a * 2 ^ suc k < n) ↔ (a * 2 < jam k n)
jam-above k a n =
    let G = 2 ^ suc k in
    let h = n / G in
    let e = jam-is k n in
    let s : h * G + n % G ≡ n = div-add-mod' n G in
    let p = pow_pos (suc k) in
    ⊎_elim (λ (l : a < h).
    let m : suc a * G ≤ n = (le-div_iff_mul-le p).0 l in
    let t = suc-mul a G in (λ x. omega arith, λ x. omega arith))
    (λ (g : h ≤ a). (
      λ (x : a * G < n).
          let m : h * G ≤ a * G = mul-le-mul_right G g in
          let b : a ≤ h = (le-div_iff_mul-le p).1 (le_of_lt x) in omega arith,
      λ (x : a * 2 < jam k n).
          let m : a * G ≤ h * G = mul-le-mul_right G (omega arith) in omega arith,
    )) (lt-or-ge a h)

pub jam-off : (k a n : ℕ) → jam k (n - a * 2 ^ suc k) ≡ jam k n - a * 2
jam-off k a n =
    let m = n - a * 2 ^ suc k in
    ⊎_elim (λ (l : n < a * 2 ^ suc k).
    let b = (jam-below k a n).0 l in ap (jam k) (omega arith) ∙ jam-zero k ∙ omega arith)
    (λ (g : a * 2 ^ suc k ≤ n).
    let e : a * 2 ^ suc k + m ≡ n = omega arith in omega (arith, jam-add k a m, ap (jam k) e))
    (lt-or-ge n (a * 2 ^ suc k))

-- two numbers that make the multiple: both are cut at it, or neither is
whole : (G q u a : ℕ) → 0 < G → u < G → q * G + u ≡ a * G → (q ≡ a) × (u ≡ 0)
whole G q u a P l e = (
  sym (digits_div q l) ∙ ap (λ (x : ℕ). x / G) e ∙ mul-div_cancel a P,
  sym (digits_mod q l) ∙ ap (λ (x : ℕ). x % G) e ∙ mul-mod_left a G,
)

jam-both : (k a m n : ℕ) → m + n ≡ a * 2 ^ suc k → jam k m + jam k n ≡ a * 2
jam-both k a m n e =
    let G = 2 ^ suc k in
    let P = pow_pos (suc k) in
    let q = m / G + n / G in
    let u = m % G + n % G in
    let x = mod-lt m P in
    let y = mod-lt n P in
    let s : q * G + u ≡ a * G =
    omega (arith, add-mul (m / G) (n / G) G, div-add-mod' m G, div-add-mod' n G) in
    ⊎_elim (λ (l : u < G). omega (arith, whole G q u a P l s, jam-is k m, jam-is k n))
    (λ (g : G ≤ u). omega (
      arith,
      whole G (suc q) (u - G) a P (omega arith) (omega (arith, suc-mul q G)),
      jam-is k m,
      jam-is k n,
    )) (lt-or-ge u G)

pub jam-from : (k a n : ℕ) → jam k (a * 2 ^ suc k - n) ≡ a * 2 - jam k n
jam-from k a n =
    ⊎_elim (λ (l : a * 2 ^ suc k < n).
    let b = (jam-above k a n).0 l in ap (jam k) (omega arith) ∙ jam-zero k ∙ omega arith)
    (λ (g : n ≤ a * 2 ^ suc k). omega (arith, jam-both k a (a * 2 ^ suc k - n) n (omega arith)))
    (lt-or-ge (a * 2 ^ suc k) n)

-- ---- where nothing is lost
pub jam-exact : (k n : ℕ) → n % 2 ^ suc k ≡ 0 → jam k n * 2 ^ k ≡ n
jam-exact k n e =
    ap (λ (x : ℕ). x * 2 ^ k) (jam-is k n ∙ omega (arith, e))
    ∙ mul_assoc (n / 2 ^ suc k) 2 (2 ^ k)
    ∙ ap (λ (x : ℕ). n / 2 ^ suc k * x) (sym (pow-succ' 2 k))
    ∙ omega (arith, e, div-add-mod' n (2 ^ suc k))

-- ---- the size of what is kept
pub jam-lt : (k j n : ℕ) → n < 2 ^ (j + suc k) → jam k n < 2 ^ suc j
jam-lt k j n h =
    let q : n / 2 ^ suc k < 2 ^ j = shr_lt j (suc k) h in omega (arith, jam-is k n, two-pow-succ j)

-- a cut makes no number longer
pub jam-no-longer : (k j n : ℕ) → n < 2 ^ suc j → jam k n < 2 ^ suc j
jam-no-longer k j n h = jam-lt k j n (lt_of_lt_of_le h (pow_mono (omega arith)))

pub jam-ge : (k j n : ℕ) → 2 ^ (j + suc k) ≤ n → 2 ^ suc j ≤ jam k n
jam-ge k j n h =
    let q : 2 ^ j ≤ n / 2 ^ suc k =
    (le-div_iff_mul-le (pow_pos (suc k))).1 (rw (← pow-add 2 j (suc k)) h) in
    omega (arith, jam-is k n, two-pow-succ j)

-- ---- one cut after another
marks : (c r G : ℕ) → 0 < G → min 1 (c * 2 + min 1 r) ≡ min 1 (c * G + r)
marks c r G P =
    ⊎_elim (λ (l : c < 1). omega (arith, ap (λ (x : ℕ). x * G) (lt-one l)))
    (λ (g : 1 ≤ c). omega (arith, mul-pos g P))
    (lt-or-ge c 1)

pub jam-jam : (i j n : ℕ) → jam j (jam i n) ≡ jam (i + j) n
jam-jam i j n =
    let G = 2 ^ suc i in
    let h = n / G in
    let x = h * 2 + min 1 (n % G) in
    let half : x / 2 ≡ h = omega arith in
    let last : x % 2 ≡ min 1 (n % G) = omega arith in
    let up₁ : x / 2 ^ suc j ≡ h / 2 ^ j =
    ap (λ (e : ℕ). x / e) (pow-succ' 2 j)
    ∙ sym (div-div-eq-div-mul x 2 (2 ^ j))
    ∙ ap (λ (y : ℕ). y / 2 ^ j) half in
    let low₁ : x % 2 ^ suc j ≡ h % 2 ^ j * 2 + min 1 (n % G) =
    ap (λ (e : ℕ). x % 2 ^ e) (sym (add-one j))
    ∙ mod-pow-add x j 1
    ∙ ap₂ (λ (y z : ℕ). y % 2 ^ j * 2 + z) half last in
    let up₂ : n / 2 ^ suc (i + j) ≡ h / 2 ^ j =
    sym (shr-shr n (suc i) j ∙ ap (λ (e : ℕ). n / 2 ^ e) (suc-add i j)) in
    let low₂ : n % 2 ^ suc (i + j) ≡ h % 2 ^ j * G + n % G =
    ap (λ (e : ℕ). n % 2 ^ e) (omega arith) ∙ mod-pow-add n j (suc i) in
    ap (jam j) (jam-is i n)
    ∙ jam-is j x
    ∙ ap₂ (λ (y z : ℕ). y * 2 + min 1 z) up₁ low₁
    ∙ ap (λ (y : ℕ). h / 2 ^ j * 2 + y) (marks (h % 2 ^ j) (n % G) G (pow_pos (suc i)))
    ∙ sym (ap₂ (λ (y z : ℕ). y * 2 + min 1 z) up₂ low₂)
    ∙ sym (jam-is (i + j) n)

-- ---- as the code has it: n / 2 ^ k, with the last digit set where that drops anything
step : (k n : ℕ) → jam k n ≡ n / 2 ^ k / 2 * 2 + min 1 (n / 2 ^ k % 2 * 2 ^ k + n % 2 ^ k)
step k n =
    let up : n / 2 ^ suc k ≡ n / 2 ^ k / 2 =
    ap (λ (x : ℕ). n / x) (pow-suc 2 k) ∙ sym (div-div-eq-div-mul n (2 ^ k) 2) in
    let down : n % 2 ^ suc k ≡ n / 2 ^ k % 2 * 2 ^ k + n % 2 ^ k =
    ap (λ (e : ℕ). n % 2 ^ e) (sym (one-add k)) ∙ mod-pow-add n 1 k in
    jam-is k n ∙ ap₂ (λ (x y : ℕ). x * 2 + min 1 y) up down

pub jam-kept : (k n : ℕ) → n / 2 ^ k * 2 ^ k ≡ n → n / 2 ^ k ≡ jam k n
jam-kept k n e =
    let t = n / 2 ^ k in
    let s = step k n in
    let d = div-add-mod' n (2 ^ k) in
    ⊎_elim (λ (l : t % 2 < 1). omega (arith, ap (λ (x : ℕ). x * 2 ^ k) (lt-one l)))
    (λ (g : 1 ≤ t % 2). omega (arith, mul-pos g (pow_pos k)))
    (lt-or-ge (t % 2) 1)

pub jam-lost : (k n : ℕ) → (n / 2 ^ k * 2 ^ k ≡ n → ⊥) → bit_or (n / 2 ^ k) 1 ≡ jam k n
jam-lost k n h =
    let t = n / 2 ^ k in
    or_step t 1
    ∙ ap (λ (x : ℕ). x * 2 + max (t % 2) 1) (or_zero_r (t / 2))
    ∙ omega (arith, step k n, div-add-mod' n (2 ^ k))

-- of a number below 2 ^ k only the mark is left
pub jam-small : (k n : ℕ) → n < 2 ^ k → jam k n ≡ min 1 n
jam-small k n l =
    let m : n < 2 ^ suc k = omega (arith, two-pow-succ k) in
    jam-is k n ∙ rw (div-eq_of_lt m, mod-eq_of_lt m) (omega arith)

pub jam_none : (n : ℕ) → jam 0 n ≡ n
jam_none n = omega (arith, jam-is 0 n)

-- ---- a number of two words of w digits, cut short by less than a word: the low word takes the
-- digits that the high one drops
module _ (w j k : ℕ) (e : j + k ≡ w) (J : 0 < j) where
  width : 2 ^ w ≡ 2 ^ k * 2 ^ j
  width = ap (λ (x : ℕ). 2 ^ x) (omega arith) ∙ pow-add 2 k j

  -- what a word keeps of h * 2 ^ j
  kept : (h : ℕ) → h * 2 ^ j % 2 ^ w ≡ h % 2 ^ k * 2 ^ j
  kept h = ap (λ (x : ℕ). h * 2 ^ j % 2 ^ x) (omega arith) ∙ moved k j h

  low-lt : (l : ℕ) → l < 2 ^ w → jam k l < 2 ^ j
  low-lt l b =
      subst (λ (x : ℕ). jam k l < 2 ^ x)
      (omega arith) (jam-lt k (j - 1) l (subst (λ (x : ℕ). l < 2 ^ x) (omega arith) b))

  pub jam-word-lt : (h l : ℕ) → l < 2 ^ w → h * 2 ^ j % 2 ^ w + jam k l < 2 ^ w
  jam-word-lt h l b =
      rw (
        kept h,
        width,
      ) (digits_lt (mod-lt h (pow_pos k)) (low-lt l b))

  pub jam-words : (h l : ℕ)
      → h / 2 ^ k * 2 ^ w + (h * 2 ^ j % 2 ^ w + jam k l) ≡ jam k (h * 2 ^ w + l)
  jam-words h l =
      let a = h * 2 ^ (j - 1) in
      let high : h * 2 ^ w ≡ a * 2 ^ suc k = sym (shl-shl h (j - 1) (suc k) w (omega arith)) in
      let twice : a * 2 ≡ h * 2 ^ j =
      mul_assoc h (2 ^ (j - 1)) 2
      ∙ ap (λ (x : ℕ). h * x) (sym (pow-suc 2 (j - 1)) ∙ ap (λ (x : ℕ). 2 ^ x) (omega arith)) in
      let both : h / 2 ^ k * 2 ^ w + h * 2 ^ j % 2 ^ w ≡ h * 2 ^ j =
      rw (
        kept h,
        width,
        ← mul_assoc (h / 2 ^ k) (2 ^ k) (2 ^ j),
        ← add-mul (h / 2 ^ k * 2 ^ k) (h % 2 ^ k) (2 ^ j),
        div-add-mod' h (2 ^ k),
      ) in
      omega (arith, both, twice, jam-add k a l, ap (λ (x : ℕ). jam k (x + l)) high)

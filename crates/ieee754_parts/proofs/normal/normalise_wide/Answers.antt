-- `normalise_wide` meets its contract. A number of two words is cut to 64 digits, which are enough
-- to round it, and a number of one word is moved up. Assumes nothing.
use Rattle.std.proofs.Common.{◌≡◌, ℕ, suc, ◌+◌, ◌-◌, ◌*◌, ◌%◌, ◌^◌, ◌<◌, ◌≤◌, Bool, sym, ap, ◌∙◌, subst, le_trans, le_of_eq, lt_of_lt_of_le, add-zero, mul-le-mul_right, mod-eq_of_lt, add-sub_of_le, add_comm, pos_of_ne-zero, zero-mul, arith, lit≤, pow-add, w64, Fits, rules}
use lib.Arith.{digits_lt}
use lib.Count.{count_leading_zeros, leading_le, leading_top}
use lib.Ieee.{binary64}
use Rattle.ieee754_parts.specs.Jam.{jam}
use Rattle.ieee754_parts.specs.Rounded.{rounded}
use Rattle.ieee754_parts.specs.Value.{value}
use Rattle.ieee754_parts.proofs.Jam.{jam-ge, jam-lt}
use Rattle.ieee754_parts.proofs.Rounding.{Kept, round-jam}
use Rattle.ieee754_parts.proofs.Sizes.{shl-shl, shifted-ge, shifted-lt}
use Rattle.ieee754_parts.proofs.normal.normalise_wide.Goals as goal

abbrev zeros : ℕ → ℕ
zeros n = count_leading_zeros 64 n

zeros-fits : (n : ℕ) → Fits w64 (zeros n)
zeros-fits n = record { fits = omega (arith, leading_le 64 n) }

-- ---- two words: the cut leaves 64 digits
two-words : (h l : ℕ)
    → (h ≡ 0 → ⊥)
    → h < 2 ^ 64
    → l < 2 ^ 64
    → (2 ^ 63 ≤ jam (64 - zeros h) (h * 2 ^ 64 + l))
    × (jam (64 - zeros h) (h * 2 ^ 64 + l) < 2 ^ 64)
two-words h l z a b =
    let t = leading_top 64 h (pos_of_ne-zero z) a in
    let j = t.0 in
    let n = h * 2 ^ 64 + l in
    let lo : 2 ^ (j + 64) ≤ n =
    le_trans (le_of_eq (pow-add 2 j 64))
    (le_trans (mul-le-mul_right (2 ^ 64) t.2) (omega arith)) in
    let hi : n < 2 ^ (suc j + 64) =
    lt_of_lt_of_le (digits_lt t.3 b) (le_of_eq (sym (pow-add 2 (suc j) 64))) in
    let e : suc j ≡ 64 - zeros h = omega (arith, t.1) in
    subst (λ (k : ℕ). (2 ^ 63 ≤ jam k n) × (jam k n < 2 ^ 64)) e (
      jam-ge (suc j) 62 n (subst (λ (x : ℕ). 2 ^ x ≤ n) (omega arith) lo),
      jam-lt (suc j) 63 n (subst (λ (x : ℕ). n < 2 ^ x) (omega arith) hi),
    )

-- so the high word t₁ of what is left is 0
low-is : (t₁ t m : ℕ) → t₁ * 2 ^ 64 + t ≡ m → m < 2 ^ 64 → t ≡ m
low-is t₁ t m e h = omega arith

cut-alike : (s : Bool) (t n k e : ℕ)
    → t ≡ jam k n
    → 2 ^ 63 ≤ jam k n
    → rounded s (t * 2 ^ (e + k)) ≡ rounded s (n * 2 ^ e)
unfolding rounded
cut-alike s t n k e h l =
    ap (λ (x : ℕ). rounded s (x * 2 ^ (e + k))) h
    ∙ ap (λ (x : ℕ). rounded s (jam k n * 2 ^ x)) (add_comm e k)
    ∙ round-jam binary64 s 1092 e k n (Kept.long (omega arith))

-- ---- one word: nothing is lost
one_word : (l : ℕ)
    → (l ≡ 0 → ⊥)
    → l < 2 ^ 64
    → (2 ^ 63 ≤ l * 2 ^ zeros l) × (l * 2 ^ zeros l < 2 ^ 64)
one_word l z b = (
  shifted-ge 64 64 l (pos_of_ne-zero z) b (lit≤ tt) (zeros l) (add-zero (zeros l)),
  shifted-lt 64 64 l (pos_of_ne-zero z) b (lit≤ tt) (zeros l) (add-zero (zeros l)),
)

moved : (h l k e : ℕ) → h ≡ 0 → k ≤ e → l * 2 ^ k * 2 ^ (e - k) ≡ (h * 2 ^ 64 + l) * 2 ^ e
moved h l k e z g =
    shl-shl l k (e - k) e (add-sub_of_le g) ∙ ap (λ (x : ℕ). x * 2 ^ e) (omega arith)

nothing : (h l e : ℕ) → h ≡ 0 → l ≡ 0 → 0 * 2 ^ 0 ≡ (h * 2 ^ 64 + l) * 2 ^ e
nothing h l e y z = sym (zero-mul (2 ^ e)) ∙ ap (λ (x : ℕ). x * 2 ^ e) (omega arith)

pub returns-then-v-ne0 : goal.returns-then-v-ne0
returns-then-v-ne0 c =
    let v = c.args.v in
    let k = 64 - zeros v.hi in
    let t = c.jam_wide-top.result in
    let i : 64 - c.from-n.result ≡ k = ap (λ (x : ℕ). 64 - x) c.from-n.ensures in
    let b = two-words v.hi v.lo c.if-v-ne0.true (search rules) (search rules) in
    let e : t.lo ≡ jam k (v.hi * 2 ^ 64 + v.lo) =
    low-is t.hi t.lo (jam k (v.hi * 2 ^ 64 + v.lo))
    (c.jam_wide-top.ensures ∙ ap (λ (x : ℕ). jam x (value v)) i) b.1 in
    rw i record {
      alike = λ g. cut-alike g t.lo (v.hi * 2 ^ 64 + v.lo) k c.args.exp e b.0;
      top = λ _. subst (λ (x : ℕ). 2 ^ 63 ≤ x) (sym e) b.0;
      within = within c.args.exp (zeros v.hi);
    }
  where
    within : (e z : ℕ) → e + (64 - z) ≤ e + 64
    within e z = omega arith

pub returns-then-v-ne0-2 : goal.returns-then-v-ne0-2
returns-then-v-ne0-2 c =
    let v = c.args.v in
    let b = one_word v.lo c.if-v-ne0-2.true (search rules) in
    let w : v.lo * 2 ^ zeros v.lo % 2 ^ 64 ≡ v.lo * 2 ^ zeros v.lo = mod-eq_of_lt b.1 in
    let g = le_trans (leading_le 64 v.lo) c.requires.0 in
    rw c.from-n-then-v-ne0-2.ensures record {
      alike = λ t.
          ap (rounded t)
          (ap (λ (x : ℕ). x * 2 ^ (c.args.exp - zeros v.lo)) w
          ∙ moved v.hi v.lo (zeros v.lo) c.args.exp c.if-v-ne0.false g);
      top = λ _. subst (λ (x : ℕ). 2 ^ 63 ≤ x) (sym w) b.0;
      within = within c.args.exp (zeros v.lo);
    }
  where
    within : (e z : ℕ) → e - z ≤ e + 64
    within e z = omega arith

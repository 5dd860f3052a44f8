-- `add_leading` meets its contract: the sum of the leading words is near to that of the terms
-- (Sums.antt), and where all that is so near rounds alike, the sum does (`settle`). Assumes
-- nothing.
use Rattle.std.proofs.Common.{◌≡◌, ℕ, suc, ◌+◌, ◌-◌, ◌*◌, ◌/◌, ◌%◌, ◌^◌, ◌<◌, ◌≤◌, Bool, true, false, cond, leb, sym, refl, ap, ◌∙◌, subst, ap₂, le_trans, le_of_eq, lt_of_lt_of_le, lt_of_le_of_lt, le_of_lt, mul-le-mul_right, mod-lt, suc-mul, div-add-mod', arith, pow_pos, shr_lt, leb-false, leb-true}
use mathlib.Core.Bool.{beq}
use lib.Ieee.{Float, binary64, units}
use Rattle.ieee754_parts.specs.Types.{Scaled}
use Rattle.ieee754_parts.specs.Leading.{Settles}
use Rattle.ieee754_parts.specs.Rounded.{rounded, summed}
use Rattle.ieee754_parts.specs.Value.{value}
use Rattle.ieee754_parts.proofs.Sizes.{shl-shl}
use Rattle.ieee754_parts.proofs.Sums.{sum-between, sum_comm}
use Rattle.ieee754_parts.proofs.leading.add_leading.Goals as goal

-- ---- n is w times 2 ^ x, and less than 2 ^ x more
abbrev Leads : ℕ → ℕ → ℕ → Type 0
Leads w x n = (w * 2 ^ x ≤ n) × (n < suc w * 2 ^ x)

-- cut short by d digits
cut : (w x d n : ℕ) → Leads w x n → Leads (w / 2 ^ d) (d + x) n
cut w x d n h =
    let q = w / 2 ^ d in
    let s : q * 2 ^ d + w % 2 ^ d ≡ w = div-add-mod' w (2 ^ d) in
    let lo : q * 2 ^ d ≤ w = omega arith in
    let hi : suc w ≤ suc q * 2 ^ d = omega (arith, mod-lt w (pow_pos d), suc-mul q (2 ^ d)) in
    let at : (y : ℕ) → y * 2 ^ d * 2 ^ x ≡ y * 2 ^ (d + x) = λ y. shl-shl y d x (d + x) refl in (
      le_trans (le_of_eq (sym (at q))) (le_trans (mul-le-mul_right (2 ^ x) lo) h.0),
      lt_of_lt_of_le h.1 (le_trans (mul-le-mul_right (2 ^ x) hi) (le_of_eq (at (suc q)))),
    )

cut-to : (w x y n : ℕ) → x ≤ y → Leads w x n → Leads (w / 2 ^ (y - x)) y n
cut-to w x y n l h =
    subst (λ (z : ℕ). Leads (w / 2 ^ (y - x)) z n) (omega arith) (cut w x (y - x) n h)

exact : (w x n : ℕ) → w * 2 ^ x ≡ n → Leads w x n
exact w x n e = (le_of_eq e, omega (arith, e, suc-mul w (2 ^ x), pow_pos x))

product-leads : (p e : ℕ) → Leads (p / 2 ^ 62) (e + 62) (p * 2 ^ e)
product-leads p e =
    subst (λ (z : ℕ). Leads (p / 2 ^ 62) z (p * 2 ^ e))
    (omega arith) (cut p e 62 (p * 2 ^ e) (exact p e (p * 2 ^ e) refl))

addend-leads : (m x : ℕ) → Leads (m * 512) (x + 1083) (m * 2 ^ x * 2 ^ 1092)
addend-leads m x =
    exact (m * 512) (x + 1083) (m * 2 ^ x * 2 ^ 1092)
    (shl-shl m 9 (x + 1083) (x + 1092) (omega arith) ∙ sym (shl-shl m x 1092 (x + 1092) refl))

-- ---- the larger one leads
module _ (r : Float) (s t : Bool) (L M a x b y n : ℕ) (w : Scaled) (leads : Leads a x L)
    (rest : Leads b y M) (settled : Settles n x w) where
  led : y ≤ x
      → n + cond (beq s t) 0 (b / 2 ^ (x - y)) ≡ a + cond (beq s t) (b / 2 ^ (x - y)) 0
      → r ≡ units binary64 s w.sig w.exp
      → r ≡ summed s L t M
  unfolding rounded summed
  led l h e =
      let c = cut-to b y x M l rest in
      let v =
      sum-between binary64 s t (2 ^ 2166) L M (2 ^ x) a (b / 2 ^ (x - y)) n leads.0 leads.1
      c.0 c.1 h settled.some in
      e ∙ sym (settled.alike s v.0 v.1.1 v.1.2) ∙ sym v.1.0

beq-comm : (s t : Bool) → beq s t ≡ beq t s
beq-comm true true = refl
beq-comm true false = refl
beq-comm false true = refl
beq-comm false false = refl

module _ (r : Float) (s t : Bool) (P C a x b y n : ℕ) (w : Scaled) (product : Leads a x P)
    (addend : Leads b y C) where
  either : (first : Bool)
      → first ≡ leb y x
      → Settles n (cond first x y) w
      → let low = cond first b a / 2 ^ (cond first x y - cond first y x) in
      n + cond (beq s t) 0 low ≡ cond first a b + cond (beq s t) low 0
      → r ≡ units binary64 (cond first s t) w.sig w.exp
      → r ≡ summed s P t C
  unfolding summed
  either true f h e is = led r s t P C a x b y n w product addend h (leb-true y x (sym f)) e is
  either false f h e is =
      led r t s C P b y a x n w addend product h (le_of_lt (leb-false y x (sym f)))
      (subst (λ (z : Bool). n + cond z 0 (a / 2 ^ (y - x)) ≡ b + cond z (a / 2 ^ (y - x)) 0)
      (beq-comm s t) e) is
      ∙ sum_comm binary64 t C s P (2 ^ 2166)

cond-lt : (f : Bool) (a b k : ℕ) → a < k → b < k → cond f a b < k
cond-lt true a b k l m = l
cond-lt false a b k l m = m

ordered : (f : Bool) (x y : ℕ) → f ≡ leb y x → cond f y x ≤ cond f x y
ordered true x y e = leb-true y x (sym e)
ordered false x y e = le_of_lt (leb-false y x (sym e))

-- the words have 62 digits at most
product-short : (p a : ℕ) → p < 2 ^ 124 → a ≡ p / 2 ^ 62 → a < 2 ^ 62
product-short p a l e = lt_of_le_of_lt (le_of_eq e) (shr_lt 62 62 l)

addend-short : (m : ℕ) → m < 2 ^ 53 → m * 512 < 2 ^ 62
addend-short m l = omega arith

pub returns-in-Some : goal.returns-in-Some
returns-in-Some c =
    let w = c.in-Some in
    let A = c.args.negative in
    let C = c.args.c.negative in
    let p = value c.args.p in
    let m = c.args.c.sig in
    let a = p / 2 ^ 62 in
    let b = m * 512 in
    let x = c.args.p_exp + 62 in
    let y = c.args.c.exp + 1083 in
    let first = leb y x in
    let is : c.shift_right-a.result ≡ a = c.shift_right-a.ensures in
    let settled = w.ensures in
    let lead : c.choose-3.result ≡ cond first a b =
    c.choose-3.ensures ∙ ap (λ (z : ℕ). cond first z b) is in
    let rest : c.choose.result ≡ cond first b a =
    c.choose.ensures ∙ ap (λ (z : ℕ). cond first b z) is in
    let low : c.shift-rest.result ≡ cond first b a / 2 ^ (cond first x y - cond first y x) =
    c.shift-rest.ensures
    ∙ ap₂ (λ (o d : ℕ). o / 2 ^ d) rest
    (ap₂ (λ (e d : ℕ). e - d) c.choose-exp.ensures c.choose-2.ensures) in
    either c.pack.result A C (p * 2 ^ c.args.p_exp) (m * 2 ^ c.args.c.exp * 2 ^ 1092) a x b
    y c.signed_sum-sum.result w.settled (product-leads p c.args.p_exp)
    (addend-leads m c.args.c.exp) first refl
    (subst (λ (e : ℕ). Settles c.signed_sum-sum.result e w.settled) c.choose-exp.ensures settled)
    (subst (λ (d : ℕ).
    c.signed_sum-sum.result + cond (beq A C) 0 d ≡ cond first a b + cond (beq A C) d 0)
    low
    (c.signed_sum-sum.ensures settled.word
    ∙ ap (λ (l : ℕ). l + cond (beq A C) c.shift-rest.result 0) lead))
    (c.pack.ensures
    ∙ ap (λ (z : Bool). units binary64 z w.settled.sig w.settled.exp)
    c.choose-negative.ensures)

-- Fractions that differ by a factor 2 ^ t, for a whole number t of either sign. 2 ^ t is itself the
-- fraction up t / down t. Numbers only, no floats. Then products of whole numbers: of a sum or a
-- difference with k (`ℤ-add-mul`, `ℤ-sub-mul`), and of 1, 2 or 3 times a number (`ℤ-once`,
-- `ℤ-twice`, `ℤ-thrice`). Assumes nothing.
use mathlib.Core.Path.{◌≡◌, refl, sym, ap, ap₂, ◌∙◌, subst}
use Prim.Native.Nat.{ℕ, zero, suc, ◌+◌, ◌-◌, ◌*◌, ◌^◌, ◌≤◌, ◌<◌}
use native.Mathlib.Nat.{mul_assoc, mul_comm, mul_left_comm, mul-pos, eq_of_mul-eq-mul_right}
use native.Mathlib.Omega.{arith}
use mathlib.Core.Bool.{Bool, true, false, not, cond, ◌&&◌, ◌||◌, beq}
use lib.IntN.{ℤ, pos, negsuc, neg_ℤ, ◌+ℤ◌, ◌-ℤ◌, ◌*ℤ◌, +ℤ_assoc, +ℤ_comm, +ℤ_idl, suc_ℤ, pred_ℤ}
use lib.IntN.{neg_ℤ-neg_ℤ, one, *ℤ-one, *ℤ_comm, zero-*ℤ, suc_ℤ-*ℤ, pred_ℤ-*ℤ, suc_ℤ-+ℤ, pred_ℤ-+ℤ}
use lib.Dec.{T, leb, ltb, eqb, compare_is_eq, leb→le, nleb→lt, ltb→lt, nltb→le}
use borrow.Author.Tests.{eq-eqb, eqb-true}
use lib.Pow.{pow-add}
use lib.Ieee.{up, down, minus, below, level}
use lib.Ieee.Digits.{minus_val}
use lib.Ieee.Fits.{up_pos, down_pos}
use Rattle.ieee754.specs.Scaling.{moved}
use Rattle.ieee754_parts.proofs.Tests.{scaled-test, cross-test}
use Rattle.ieee754_parts.proofs.Nearest.{compare-mul}
use Rattle.ieee754_parts.proofs.Sums.{cross-sub}

-- ---- exponents
pub +ℤ-right-comm : (x y z : ℤ) → x +ℤ y +ℤ z ≡ x +ℤ z +ℤ y
+ℤ-right-comm x y z = +ℤ_assoc x y z ∙ ap (λ (w : ℤ). x +ℤ w) (+ℤ_comm y z) ∙ sym (+ℤ_assoc x z y)

-- `lib.Ieee` and `lib.IntN` each have a difference of two naturals
minus_is : (a l : ℕ) → minus a l ≡ pos a -ℤ pos l
minus_is a zero = go (leb 0 a) (nleb→lt 0 a)
  where
    go : (x : Bool) → (T (not x) → a < 0) → cond x (pos (a - 0)) (negsuc (0 - suc a)) ≡ pos (a + 0)
    go true g = ap pos (omega arith)
    go false g = absurd (omega (arith, g tt))
minus_is a (suc b) =
    go (leb (suc b) a) (ltb a (suc b)) (leb→le (suc b) a) (nleb→lt (suc b) a) (ltb→lt a (suc b))
    (nltb→le a (suc b))
  where
    go : (x y : Bool)
        → (T x → suc b ≤ a)
        → (T (not x) → a < suc b)
        → (T y → a < suc b)
        → (T (not y) → suc b ≤ a)
        → cond x (pos (a - suc b)) (negsuc (suc b - suc a))
        ≡ cond y (negsuc (suc b - suc a)) (pos (a - suc b))
    go true true f g h k = absurd (omega (arith, f tt, h tt))
    go true false f g h k = refl
    go false true f g h k = refl
    go false false f g h k = absurd (omega (arith, g tt, k tt))

pub minus-add : (a t l : ℕ) → minus (a + t) l ≡ minus a l +ℤ pos t
minus-add a t l =
    minus_is (a + t) l
    ∙ +ℤ-right-comm (pos a) (pos t) (neg_ℤ (pos l))
    ∙ ap (λ (z : ℤ). z +ℤ pos t) (sym (minus_is a l))

-- ---- 2 ^ (e + t) is 2 ^ e * 2 ^ t
two-sub : (a l : ℕ) → up (pos a -ℤ pos l) * 2 ^ l ≡ 2 ^ a * down (pos a -ℤ pos l)
two-sub a l =
    subst (λ (z : ℤ). up z * 2 ^ l ≡ 2 ^ a * down z) (minus_is a l) (omega (arith, minus_val 1 a l))

two-add : (e t : ℤ) → up (e +ℤ t) * (down e * down t) ≡ up e * up t * down (e +ℤ t)
two-add (pos a) (pos b) = omega (arith, pow-add 2 a b)
two-add (pos a) (negsuc b) = omega (arith, two-sub a (suc b))
two-add (negsuc a) (pos b) = omega (arith, two-sub b (suc a))
two-add (negsuc a) (negsuc b) =
    omega (arith, pow-add 2 (suc a) (suc b), ap (λ (n : ℕ). 2 ^ n) (same a b))
  where
    same : (a b : ℕ) → suc a + suc b ≡ suc (suc (a + b))
    same a b = omega arith

-- 2 ^ -x, whether or not x is 0
pub up-negative : (x : ℕ) → up (neg_ℤ (pos x)) ≡ 1
up-negative zero = refl
up-negative (suc x) = refl

pub down-negative : (x : ℕ) → down (neg_ℤ (pos x)) ≡ 2 ^ x
down-negative zero = refl
down-negative (suc x) = refl

-- ---- the fraction a' / c' is 2 ^ t times a / c
pub record Ratio (t : ℤ) (a c a' c' : ℕ) : Type 0 where
  pub den : 0 < c
  pub den' : 0 < c'
  pub cross : a' * (c * down t) ≡ a * (c' * up t)

pub moved-ratio : (t : ℤ) (m : ℕ) (e : ℤ)
    → Ratio t (m * up e) (down e) (m * up (moved t m e)) (down (moved t m e))
moved-ratio t m e = record { den = down_pos e; den' = down_pos (moved t m e); cross = go m }
  where
    go : (m : ℕ) → m * up (moved t m e) * (down e * down t) ≡ m * up e * (down (moved t m e) * up t)
    go zero = omega arith
    go (suc m) = omega (arith, ap (λ (z : ℕ). suc m * z) (two-add e t))

-- the factors of a product in one order, where `omega` has too many to sort
ruleset sort = (mul_assoc, mul_comm, mul_left_comm)

pub ratio-mul : {t u : ℤ} {a c a' c' b d b' d' : ℕ}
    → Ratio t a c a' c'
    → Ratio u b d b' d'
    → Ratio (t +ℤ u) (a * b) (c * d) (a' * b') (c' * d')
ratio-mul {t} {u} {a} {c' = c'} {b} {d' = d'} p q = record {
  den = mul-pos p.den q.den;
  den' = mul-pos p.den' q.den';
  cross = eq_of_mul-eq-mul_right (down t * down u) (mul-pos (down_pos t) (down_pos u)) _ _
      (simp sort
      ((simp sort at (ap₂ (λ (x y : ℕ). x * y * down (t +ℤ u)) p.cross q.cross))
      ∙ sym (simp sort at (ap (λ (z : ℕ). a * b * (c' * d') * z) (two-add t u)))));
}

-- the inverse, of a fraction above zero
inverse : (u : ℤ) {b d b' d' : ℕ} → 0 < b → 0 < b' → Ratio u b d b' d' → Ratio (neg_ℤ u) d b d' b'
inverse (pos zero) B B' q = record { den = B; den' = B'; cross = omega arith }
inverse (pos (suc k)) B B' q = record { den = B; den' = B'; cross = omega arith }
inverse (negsuc k) B B' q = record { den = B; den' = B'; cross = omega arith }

pub ratio-div : {t u : ℤ} {a c a' c' b d b' d' : ℕ}
    → 0 < b
    → 0 < b'
    → Ratio t a c a' c'
    → Ratio u b d b' d'
    → Ratio (t -ℤ u) (a * d) (b * c) (a' * d') (b' * c')
ratio-div {u = u} B B' p q = record {
  den = mul-pos B p.den;
  den' = mul-pos B' p.den';
  cross = omega (arith, (ratio-mul p (inverse u B B' q)).cross);
}

-- a / c and b / d over their common denominator, as a sum and a comparison have them
module _ {t : ℤ} {a c a' c' b d b' d' : ℕ} (p : Ratio t a c a' c') (q : Ratio t b d b' d') where
  pub ratio-left : Ratio t (a * d) (c * d) (a' * d') (c' * d')
  ratio-left = record {
    den = mul-pos p.den q.den;
    den' = mul-pos p.den' q.den';
    cross = omega (arith, ap (λ (z : ℕ). z * (d * d')) p.cross);
  }

  pub ratio-right : Ratio t (b * c) (c * d) (b' * c') (c' * d')
  ratio-right = record {
    den = mul-pos p.den q.den;
    den' = mul-pos p.den' q.den';
    cross = omega (arith, ap (λ (z : ℕ). z * (c * c')) q.cross);
  }

-- ---- over one denominator: sums, differences, comparisons
module _ {t : ℤ} {x y c x' y' c' : ℕ} (p : Ratio t x c x' c') (q : Ratio t y c y' c') where
  pub ratio-add : Ratio t (x + y) c (x' + y') c'
  ratio-add = record { den = p.den; den' = p.den'; cross = omega arith }

  pub ratio-sub : Ratio t (x - y) c (x' - y') c'
  ratio-sub = record {
    den = p.den;
    den' = p.den';
    cross = cross-sub x' y' (c' * up t) x y (c * down t) p.cross q.cross;
  }

  -- a test that sees only the ratio of two numbers
  ratio-test : (r : ℕ → ℕ → Bool)
      → ((a b e : ℕ) → 0 < e → r (a * e) (b * e) ≡ r a b)
      → r x' y' ≡ r x y
  ratio-test r scaled =
      cross-test r scaled x' y' (c' * up t) x y (c * down t) (mul-pos p.den' (up_pos t))
      (mul-pos p.den (down_pos t)) p.cross q.cross

  pub ratio-lt : ltb x' y' ≡ ltb x y
  ratio-lt = ratio-test ltb scaled-test

  pub ratio-eq : eqb x' y' ≡ eqb x y
  ratio-eq = ratio-test eqb (λ a b e E. ap compare_is_eq (compare-mul a b e E))

-- fractions that are 2 ^ t times one fraction are equal
pub ratio-once : {t : ℤ} {a c b d b' d' : ℕ} → Ratio t a c b d → Ratio t a c b' d' → b * d' ≡ b' * d
ratio-once {a = a} {c} {b} {d} {b'} {d'} p q =
    eqb-true (b * d') (b' * d)
    (ratio-eq (ratio-left p q) (ratio-right p q) ∙ eq-eqb (a * c) (a * c) refl)

-- the two tests of `lib.Ieee`, ±x < ±y and ±x = ±y
module _ {t : ℤ} {x y c x' y' c' : ℕ} (p : Ratio t x c x' c') (q : Ratio t y c y' c') where
  nothing : Ratio t 0 c 0 c'
  nothing = record { den = p.den; den' = p.den'; cross = omega arith }

  pub ratio-below : (s s' : Bool) → below s x' s' y' ≡ below s x s' y
  ratio-below false false = ratio-lt p q
  ratio-below false true = refl
  ratio-below true false = ratio-lt nothing (ratio-add p q)
  ratio-below true true = ratio-lt q p

  pub ratio-level : (s s' : Bool) → level s x' s' y' ≡ level s x s' y
  ratio-level s s' =
      ap₂ (λ (f g : Bool). f && (beq s s' || g)) (ratio-eq p q) (ratio-eq p nothing)

-- ---- (n + p) * k is n * k + p * k, and so for a difference

-- from n to the next number, or to the one before
step : (f : ℤ → ℤ) (d n p k : ℤ)
    → ((m : ℤ) → f m *ℤ k ≡ m *ℤ k +ℤ d)
    → ((m q : ℤ) → f m +ℤ q ≡ f (m +ℤ q))
    → (n +ℤ p) *ℤ k ≡ n *ℤ k +ℤ p *ℤ k
    → (f n +ℤ p) *ℤ k ≡ f n *ℤ k +ℤ p *ℤ k
step f d n p k f-mul f-add h =
    ap (λ (x : ℤ). x *ℤ k) (f-add n p)
    ∙ f-mul (n +ℤ p)
    ∙ ap (λ (x : ℤ). x +ℤ d) h
    ∙ +ℤ-right-comm (n *ℤ k) (p *ℤ k) d
    ∙ sym (ap (λ (x : ℤ). x +ℤ p *ℤ k) (f-mul n))

zero-add-mul : (p k : ℤ) → (pos zero +ℤ p) *ℤ k ≡ pos zero *ℤ k +ℤ p *ℤ k
zero-add-mul p k =
    ap (λ (x : ℤ). x *ℤ k) (+ℤ_idl p)
    ∙ sym (ap (λ (x : ℤ). x +ℤ p *ℤ k) (zero-*ℤ k) ∙ +ℤ_idl (p *ℤ k))

pub ℤ-add-mul : (n p k : ℤ) → (n +ℤ p) *ℤ k ≡ n *ℤ k +ℤ p *ℤ k
ℤ-add-mul (pos zero) p k = zero-add-mul p k
ℤ-add-mul (pos (suc n)) p k =
    step suc_ℤ k (pos n) p k (λ m. suc_ℤ-*ℤ m k) suc_ℤ-+ℤ (ℤ-add-mul (pos n) p k)
ℤ-add-mul (negsuc zero) p k =
    step pred_ℤ (neg_ℤ k) (pos zero) p k (λ m. pred_ℤ-*ℤ m k) pred_ℤ-+ℤ (zero-add-mul p k)
ℤ-add-mul (negsuc (suc n)) p k =
    step pred_ℤ (neg_ℤ k) (negsuc n) p k (λ m. pred_ℤ-*ℤ m k) pred_ℤ-+ℤ (ℤ-add-mul (negsuc n) p k)

neg-mul : (p k : ℤ) → neg_ℤ p *ℤ k ≡ neg_ℤ (p *ℤ k)
neg-mul (pos zero) k = zero-*ℤ k ∙ sym (ap neg_ℤ (zero-*ℤ k))
neg-mul (pos (suc a)) (pos b) = refl
neg-mul (pos (suc a)) (negsuc b) = sym (neg_ℤ-neg_ℤ _)
neg-mul (negsuc a) (pos b) = sym (neg_ℤ-neg_ℤ _)
neg-mul (negsuc a) (negsuc b) = refl

pub ℤ-sub-mul : (n p k : ℤ) → (n -ℤ p) *ℤ k ≡ n *ℤ k -ℤ p *ℤ k
ℤ-sub-mul n p k = ℤ-add-mul n (neg_ℤ p) k ∙ ap (λ (x : ℤ). n *ℤ k +ℤ x) (neg-mul p k)

-- once t; and n + n and n + n + n, times k
pub ℤ-once : (t : ℤ) → pos 1 *ℤ t ≡ t
unfolding one
ℤ-once t = *ℤ_comm (pos 1) t ∙ *ℤ-one t

pub ℤ-twice : (n k : ℤ) → (n +ℤ n) *ℤ k ≡ pos 2 *ℤ (n *ℤ k)
ℤ-twice n k =
    ℤ-add-mul n n k ∙ sym (suc_ℤ-*ℤ (pos 1) (n *ℤ k) ∙ ap (λ (x : ℤ). x +ℤ n *ℤ k) (ℤ-once (n *ℤ k)))

pub ℤ-thrice : (n k : ℤ) → (n +ℤ n +ℤ n) *ℤ k ≡ pos 3 *ℤ (n *ℤ k)
ℤ-thrice n k =
    ℤ-add-mul (n +ℤ n) n k
    ∙ ap (λ (x : ℤ). x +ℤ n *ℤ k) (ℤ-twice n k)
    ∙ sym (suc_ℤ-*ℤ (pos 2) (n *ℤ k))

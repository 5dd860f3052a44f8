-- Any two numbers are in one order or the other, when two tests of numbers agree, and what a test
-- that passed says. Assumes nothing.
use Rattle.std.proofs.Common.{◌≡◌, ℕ, ◌*◌, ◌<◌, ◌≤◌, Bool, true, false, not, ◌&&◌, ◌||◌, T, ltb, ◌⊎◌, ◌↔◌, sym, refl, ◌∙◌, subst, ap₂, inl, inr, ⊎_elim, lt_of_mul-lt-mul_right, mul-lt-mul_of_pos_right, arith, le-ltb, lt-ltb}
use native.Mathlib.Decide.{dec_lt}
use mathlib.Core.Bool.{false≢true}
use mathlib.Core.Logic.{by_cases}

pub lt-or-ge : (a b : ℕ) → (a < b) ⊎ (b ≤ a)
lt-or-ge a b = by_cases (dec_lt a b) inl (λ (n : ¬ (a < b)). inr (omega arith))

pub same_test : (a b c d : ℕ) → ((a < b) ↔ (c < d)) → ltb a b ≡ ltb c d
same_test a b c d h =
    ⊎_elim (λ (l : a < b). lt-ltb a b l ∙ sym (lt-ltb c d (h.0 l)))
    (λ (g : b ≤ a).
    le-ltb a b g
    ∙ sym (le-ltb c d (⊎_elim (λ (l : c < d). let m : a < b = h.1 l in omega arith)
    (λ (k : d ≤ c). k)
    (lt-or-ge c d)))) (lt-or-ge a b)

-- two products by one number compare as the factors do
pub scaled-test : (a b c : ℕ) → 0 < c → ltb (a * c) (b * c) ≡ ltb a b
scaled-test a b c C =
    same_test (a * c) (b * c) a b
    (lt_of_mul-lt-mul_right c, λ (l : a < b). mul-lt-mul_of_pos_right l C)

-- so a / c and b / c compare as a' / c' and b' / c' that equal them, by this test or by any of
-- which as much is known
pub cross-test : (t : ℕ → ℕ → Bool)
    → ((a b c : ℕ) → 0 < c → t (a * c) (b * c) ≡ t a b)
    → (a b c a' b' c' : ℕ)
    → 0 < c
    → 0 < c'
    → a * c' ≡ a' * c
    → b * c' ≡ b' * c
    → t a b ≡ t a' b'
cross-test t scaled a b c a' b' c' C C' x y = sym (scaled a b c' C') ∙ ap₂ t x y ∙ scaled a' b' c C

-- what a test b said where a function answered it by r
pub answered : {r b : Bool} → r ≡ b → r ≡ true → T b
answered e t = subst T (sym t ∙ e) tt

pub denied : {r b : Bool} → r ≡ b → r ≡ false → T (not b)
denied e t = subst (λ (b : Bool). T (not b)) (sym t ∙ e) tt

-- two tests that both pass
pub both : {a b : Bool} → a && b ≡ true → (a ≡ true) × (b ≡ true)
both {a} {b} e = go a b e
  where
    go : (a b : Bool) → a && b ≡ true → (a ≡ true) × (b ≡ true)
    go true b e = (refl, e)
    go false b e = (e, absurd (subst T (sym e) tt))

-- two tests that both fail
pub both-fail : (a b : Bool) → a || b ≡ false → (a ≡ false) × (b ≡ false)
both-fail false false h = (refl, refl)
both-fail true b h = absurd (false≢true (sym h))
both-fail false true h = absurd (false≢true (sym h))

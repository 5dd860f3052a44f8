-- Lists by their entries. Two lists of one length whose entries are in a relation, place by place
-- (the library's `Forall₂`), stay so where one place is set in both and where both are cut. What is
-- read past a list's end does not matter inside it, and is no matter where every entry is that. A
-- list of four is that of its entries. Assumes nothing.
use mathlib.Core.Path.{◌≡◌, refl, subst}
use mathlib.Core.List.{List, [], ◌∷◌, Forall₂}
use Prim.Native.Nat.{ℕ, zero, suc, ◌<◌}
use native.Mathlib.Nat.{le_of_suc-le-suc}
use native.Mathlib.Omega.{arith}
use lib.ListN.{length, get_or, set, take, replicate}

module _ {A : Type 0} {R : A → A → Type 0} where
  set_both : (i : ℕ) {l l' : List A} {x x' : A}
      → Forall₂ R l l'
      → R x x'
      → Forall₂ R (set l i x) (set l' i x')
  set_both i Forall₂.nil h = Forall₂.nil
  set_both zero (Forall₂.cons y ys) h = Forall₂.cons h ys
  set_both (suc i) (Forall₂.cons y ys) h = Forall₂.cons y (set_both i ys h)

  pub set-entries : {i i' : ℕ} {l l' : List A} {x x' : A}
      → i ≡ i'
      → Forall₂ R l l'
      → R x x'
      → Forall₂ R (set l i x) (set l' i' x')
  set-entries {i} {l = l} {l'} {x} {x'} e ys h =
      subst (λ (j : ℕ). Forall₂ R (set l i x) (set l' j x')) e (set_both i ys h)

  take-both : (n : ℕ) {l l' : List A} → Forall₂ R l l' → Forall₂ R (take n l) (take n l')
  take-both zero h = Forall₂.nil
  take-both (suc n) Forall₂.nil = Forall₂.nil
  take-both (suc n) (Forall₂.cons y ys) = Forall₂.cons y (take-both n ys)

  pub take-entries : {n n' : ℕ} {l l' : List A}
      → n ≡ n'
      → Forall₂ R l l'
      → Forall₂ R (take n l) (take n' l')
  take-entries {n} {l = l} {l'} e ys =
      subst (λ (m : ℕ). Forall₂ R (take n l) (take m l')) e (take-both n ys)

  -- as a list begins that has four slots
  pub four-entries : {x x' : A} → R x x' → Forall₂ R (x ∷ x ∷ x ∷ x ∷ []) (x' ∷ x' ∷ x' ∷ x' ∷ [])
  four-entries h = Forall₂.cons h (Forall₂.cons h (Forall₂.cons h (Forall₂.cons h Forall₂.nil)))

module _ {A : Type 0} where
  pub inside-same : (l : List A) (i : ℕ) (d e : A) → i < length l → get_or l i d ≡ get_or l i e
  inside-same [] i d e h = absurd (omega arith)
  inside-same (a ∷ l) zero d e h = refl
  inside-same (a ∷ l) (suc i) d e h = inside-same l i d e (le_of_suc-le-suc h)

  -- a list of four is that of its entries
  pub list-of-four : (l : List A) (d : A)
      → length l ≡ 4
      → get_or l 0 d ∷ get_or l 1 d ∷ get_or l 2 d ∷ get_or l 3 d ∷ [] ≡ l
  list-of-four [] d h = absurd (omega arith)
  list-of-four (a ∷ []) d h = absurd (omega arith)
  list-of-four (a ∷ b ∷ []) d h = absurd (omega arith)
  list-of-four (a ∷ b ∷ c ∷ []) d h = absurd (omega arith)
  list-of-four (a ∷ b ∷ c ∷ e ∷ []) d h = refl
  list-of-four (a ∷ b ∷ c ∷ e ∷ f ∷ l) d h = absurd (omega arith)

  pub replicate-entry : (n i : ℕ) (d : A) → get_or (replicate n d) i d ≡ d
  replicate-entry zero i d = refl
  replicate-entry (suc n) zero d = refl
  replicate-entry (suc n) (suc i) d = replicate-entry n i d

-- The calculus of degrees: for each operator of `Traced` a rule under the operator's own name. So
-- the proof that a formula scales is the formula itself, with the hypothesis on each input in the
-- input's place. A degree that is a literal computes, `pos 2 +ℤ pos 2` to `pos 4` and
-- `pos 1 -ℤ pos 4` to `negsuc 2`, so no arithmetic shows. Where a degree is a variable, `degree`
-- takes the equation that a literal would compute. An answer that is an enum or a struct has a
-- relation of its own; the body of a `>>=` takes that relation's proof apart, and the formula's
-- `match` computes with it. Assumes nothing.
use mathlib.Core.Path.{◌≡◌, refl, sym, ap, ap₂, ◌∙◌, subst, subst₂, subst₃}
use mathlib.Core.Bool.{Bool, true, false, ◌&&◌, true≢false, false≢true}
use lib.IntN.{ℤ, pos, ◌+ℤ◌, ◌-ℤ◌, ◌*ℤ◌, zero-*ℤ}
use lib.Dec.{T}
use lib.Ieee.{Float, binary64, neg, add, sub, mul, div, lt, eq, le, ne, is_nan, of_bits}
use lib.Ieee.Fits.{and_l, and_r}
use lib.Ieee.Scale.{finite}
use Rattle.ieee754.specs.Literal.{double}
use Rattle.ieee754.specs.Magnitude.{abs}
use Rattle.ieee754.specs.CopySign.{negative, copysign}
use Rattle.ieee754.specs.Maximum.{max}
use Rattle.ieee754.specs.Clamp.{clamp}
use Rattle.ieee754.specs.TotalOrder.{total_order, total_cmp}
use Rattle.ieee754.specs.Root.{sqrt, cbrt}
use Rattle.std.specs.Prelude as prelude
use Rattle.std.specs.Prelude.{Option, Some, None}
use Rattle.ieee754.specs.Traced as traced
use Rattle.ieee754.specs.Traced.{Traced, add_regular, mul_regular, div_regular, fma_regular}
use Rattle.ieee754.specs.Traced.{sqrt_regular, cbrt_regular}
use Rattle.ieee754.specs.Scaling.{scale, Both, At, Scales, AtOption, some-at, none-at}
use Rattle.ieee754.proofs.Tests.{three}
use Rattle.ieee754_laws.proofs.Powers.{ℤ-add-mul, ℤ-sub-mul, ℤ-twice, ℤ-thrice}
use Rattle.ieee754_laws.proofs.RoundScale.{scale-zero}
use Rattle.ieee754_laws.proofs.ScaleLaws.{neg-scale, abs-scale, negative-scale}
use Rattle.ieee754_laws.proofs.ScaleLaws.{copysign-scale, max-scale, clamp-scale, mul-scale}
use Rattle.ieee754_laws.proofs.ScaleLaws.{div-scale, add-scale, sub-scale, fma-scale}
use Rattle.ieee754_laws.proofs.ScaleLaws.{sqrt-scale, cbrt-scale, lt-scale, eq-scale}
use Rattle.ieee754_laws.proofs.ScaleLaws.{le-scale, ne-scale, is_nan-scale, finite-scale}
use Rattle.ieee754_laws.proofs.ScaleLaws.{total_order-scale, total_cmp-scale}

-- ---- a lifted operation of one operand or of two, from its law on floats
lift₁ : (op : Float → Float) (reg : Float → Bool) {k n q : ℤ}
    → ((x : Float) → T (reg x) → T (reg (scale (n *ℤ k) x)) →
    op (scale (n *ℤ k) x) ≡ scale (q *ℤ k) (op x))
    → {x x' : Traced Float}
    → Scales k n x x'
    → Scales k q (record { value = op x.value; regular = x.regular && reg x.value })
    (record { value = op x'.value; regular = x'.regular && reg x'.value })
lift₁ op reg law {x} {x'} f = record {
  results = λ r r'.
      let X =
      (f.results (and_l x.regular (reg x.value) r)
      (and_l x'.regular (reg x'.value) r')).scaled in
      record {
        scaled =
            ap op X
            ∙ law x.value (and_r x.regular (reg x.value) r)
            (subst (λ (a : Float). T (reg a)) X (and_r x'.regular (reg x'.value) r'));
      };
}

lift₂ : (op : Float → Float → Float) (reg : Float → Float → Bool) {k n p q : ℤ}
    → ((x y : Float) → T (reg x y) → T (reg (scale (n *ℤ k) x) (scale (p *ℤ k) y)) →
    op (scale (n *ℤ k) x) (scale (p *ℤ k) y) ≡ scale (q *ℤ k) (op x y))
    → {x x' y y' : Traced Float}
    → Scales k n x x'
    → Scales k p y y'
    → Scales k q (record {
      value = op x.value y.value;
      regular = x.regular && y.regular && reg x.value y.value;
    })
    (record {
      value = op x'.value y'.value;
      regular = x'.regular && y'.regular && reg x'.value y'.value;
    })
lift₂ op reg law {x} {x'} {y} {y'} f g = record {
  results = λ r r'.
      let c = three x.regular y.regular (reg x.value y.value) r in
      let c' = three x'.regular y'.regular (reg x'.value y'.value) r' in
      let X = (f.results c.0 c'.0).scaled in
      let Y = (g.results c.1 c'.1).scaled in
      record {
        scaled =
            ap₂ op X Y
            ∙ law x.value y.value c.2 (subst₂ (λ (a b : Float). T (reg a b)) X Y c'.2);
      };
}

-- a function of one operand that rounds nothing; and a test of one operand or of two, which comes
-- out the same in the two runs
at₁ : (op : Float → Float)
    → ((u : ℤ) (x : Float) → op (scale u x) ≡ scale u (op x))
    → {k n : ℤ} {x x' : Float}
    → At k n x x'
    → At k n (op x) (op x')
at₁ op law {k} {n} {x} f = record { scaled = ap op f.scaled ∙ law (n *ℤ k) x }

same₁ : {B : Type 0} (t : Float → B)
    → ((u : ℤ) (x : Float) → t (scale u x) ≡ t x)
    → {k n : ℤ} {x x' : Float}
    → At k n x x'
    → t x ≡ t x'
same₁ t law {k} {n} {x} f = sym (ap t f.scaled ∙ law (n *ℤ k) x)

same₂ : {B : Type 0} (t : Float → Float → B)
    → ((u : ℤ) (x y : Float) → t (scale u x) (scale u y) ≡ t x y)
    → {k n : ℤ} {x x' y y' : Float}
    → At k n x x'
    → At k n y y'
    → t x y ≡ t x' y'
same₂ t law {k} {n} {x} {y = y} f g = sym (ap₂ t f.scaled g.scaled ∙ law (n *ℤ k) x y)

-- ---- the rules for floats
module _ {k : ℤ} where
  infixl 90 !◌ ⊝◌ √◌ ∛◌
  infixl 70 ◌⊗◌ ◌⊘◌
  infixl 60 ◌⊕◌ ◌⊖◌
  -- what is equal in the two runs has degree 0: a literal of the program, or an input that does not
  -- scale
  pub same : (x : Float) → At k (pos 0) x x
  same x = record { scaled = sym (ap (λ (t : ℤ). scale t x) (zero-*ℤ k) ∙ scale-zero x) }

  -- and what has degree 0 is equal in the two runs
  pub at_zero : {x x' : Float} → At k (pos 0) x x' → x ≡ x'
  at_zero {x} h = sym (h.scaled ∙ ap (λ (t : ℤ). scale t x) (zero-*ℤ k) ∙ scale-zero x)

  -- 0.0 has every degree
  pub null : {n : ℤ} → At k n (double 0) (double 0)
  unfolding scale of_bits
  null = record { scaled = refl }

  pub !◌ : {n : ℤ} {x x' : Float} → At k n x x' → Scales k n (traced.!◌ x) (traced.!◌ x')
  ! h = record { results = λ r r'. h }

  pub ⊝◌ : {n : ℤ} {x x' : Traced Float} → Scales k n x x' → Scales k n (traced.⊝◌ x) (traced.⊝◌ x')
  ⊝ f = record { results = λ r r'. at₁ neg neg-scale (f.results r r') }

  pub ◌⊗◌ : {n p : ℤ} {x x' y y' : Traced Float}
      → Scales k n x x'
      → Scales k p y y'
      → Scales k (n +ℤ p) (traced.◌⊗◌ x y) (traced.◌⊗◌ x' y')
  ◌⊗◌ {n} {p} =
      lift₂ (mul binary64) mul_regular
      (λ a b. rw (ℤ-add-mul n p k) (mul-scale (n *ℤ k) (p *ℤ k) a b))

  pub ◌⊘◌ : {n p : ℤ} {x x' y y' : Traced Float}
      → Scales k n x x'
      → Scales k p y y'
      → Scales k (n -ℤ p) (traced.◌⊘◌ x y) (traced.◌⊘◌ x' y')
  ◌⊘◌ {n} {p} =
      lift₂ (div binary64) div_regular
      (λ a b. rw (ℤ-sub-mul n p k) (div-scale (n *ℤ k) (p *ℤ k) a b))

  pub ◌⊕◌ : {n : ℤ} {x x' y y' : Traced Float}
      → Scales k n x x'
      → Scales k n y y'
      → Scales k n (traced.◌⊕◌ x y) (traced.◌⊕◌ x' y')
  ◌⊕◌ {n} = lift₂ (add binary64) add_regular (add-scale (n *ℤ k))

  pub ◌⊖◌ : {n : ℤ} {x x' y y' : Traced Float}
      → Scales k n x x'
      → Scales k n y y'
      → Scales k n (traced.◌⊖◌ x y) (traced.◌⊖◌ x' y')
  ◌⊖◌ {n} = lift₂ (sub binary64) (λ a b. add_regular a (neg b)) (sub-scale (n *ℤ k))

  pub √◌ : {n : ℤ} {x x' : Traced Float}
      → Scales k (n +ℤ n) x x'
      → Scales k n (traced.√◌ x) (traced.√◌ x')
  √◌ {n} = lift₁ sqrt sqrt_regular (λ a. rw (ℤ-twice n k) (sqrt-scale (n *ℤ k) a))

  pub ∛◌ : {n : ℤ} {x x' : Traced Float}
      → Scales k (n +ℤ n +ℤ n) x x'
      → Scales k n (traced.∛◌ x) (traced.∛◌ x')
  ∛◌ {n} = lift₁ cbrt cbrt_regular (λ a. rw (ℤ-thrice n k) (cbrt-scale (n *ℤ k) a))

  pub mul_add : {n p : ℤ} {x x' y y' z z' : Traced Float}
      → Scales k n x x'
      → Scales k p y y'
      → Scales k (n +ℤ p) z z'
      → Scales k (n +ℤ p) (traced.mul_add x y z) (traced.mul_add x' y' z')
  mul_add {n} {p} {x} {x'} {y} {y'} {z} {z'} f g h = record {
    results = λ r r'.
        let c =
        three (x.regular && y.regular) z.regular (fma_regular x.value y.value z.value)
        r in
        let c' =
        three (x'.regular && y'.regular) z'.regular
        (fma_regular x'.value y'.value z'.value) r' in
        let X =
        (f.results (and_l x.regular y.regular c.0)
        (and_l x'.regular y'.regular c'.0)).scaled in
        let Y =
        (g.results (and_r x.regular y.regular c.0)
        (and_r x'.regular y'.regular c'.0)).scaled in
        let Z =
        (h.results c.1 c'.1).scaled ∙ ap (λ (t : ℤ). scale t z.value) (ℤ-add-mul n p k) in
        let law =
        fma-scale (n *ℤ k) (p *ℤ k) x.value y.value z.value c.2
        (subst₃ (λ (a b d : Float). T (fma_regular a b d)) X Y Z c'.2) in
        record { scaled = rw (X, Y, Z, ℤ-add-mul n p k) law };
  }

  -- an equation between degrees, where one is a variable
  pub degree : {n p : ℤ} {m m' : Traced Float} → n ≡ p → Scales k n m m' → Scales k p m m'
  degree {m = m} {m' = m'} e = subst (λ (d : ℤ). Scales k d m m') e

  -- ---- functions that round nothing
  pub neg-at : {n : ℤ} {x x' : Float} → At k n x x' → At k n (neg x) (neg x')
  neg-at = at₁ neg neg-scale

  pub abs-at : {n : ℤ} {x x' : Float} → At k n x x' → At k n (abs x) (abs x')
  abs-at = at₁ abs abs-scale

  pub copysign-at : {n p : ℤ} {x x' y y' : Float}
      → At k n x x'
      → At k p y y'
      → At k n (copysign x y) (copysign x' y')
  copysign-at {n} {p} {x} {y = y} f g = record {
    scaled = ap₂ copysign f.scaled g.scaled ∙ copysign-scale (n *ℤ k) (p *ℤ k) x y;
  }

  pub max-at : {n : ℤ} {x x' y y' : Float}
      → At k n x x'
      → At k n y y'
      → At k n (max x y) (max x' y')
  max-at {n} {x} {y = y} f g =
      record { scaled = ap₂ max f.scaled g.scaled ∙ max-scale (n *ℤ k) x y }

  pub clamp-at : {n : ℤ} {x x' l l' h h' : Float}
      → At k n x x'
      → At k n l l'
      → At k n h h'
      → At k n (clamp x l h) (clamp x' l' h')
  clamp-at {n} {x} {l = l} {h = h} f g i = record {
    scaled = (λ j. clamp (f.scaled j) (g.scaled j) (i.scaled j)) ∙ clamp-scale (n *ℤ k) x l h;
  }

  -- ---- tests
  pub lt_same : {n : ℤ} {x x' y y' : Float} → At k n x x' → At k n y y' → lt x y ≡ lt x' y'
  lt_same = same₂ lt lt-scale

  pub le_same : {n : ℤ} {x x' y y' : Float} → At k n x x' → At k n y y' → le x y ≡ le x' y'
  le_same = same₂ le le-scale

  pub eq-same : {n : ℤ} {x x' y y' : Float} → At k n x x' → At k n y y' → eq x y ≡ eq x' y'
  eq-same = same₂ eq eq-scale

  pub ne_same : {n : ℤ} {x x' y y' : Float} → At k n x x' → At k n y y' → ne x y ≡ ne x' y'
  ne_same = same₂ ne ne-scale

  pub nan_same : {n : ℤ} {x x' : Float} → At k n x x' → is_nan x ≡ is_nan x'
  nan_same = same₁ is_nan is_nan-scale

  pub finite-same : {n : ℤ} {x x' : Float} → At k n x x' → finite x ≡ finite x'
  finite-same = same₁ finite finite-scale

  pub negative-same : {n : ℤ} {x x' : Float} → At k n x x' → negative x ≡ negative x'
  negative-same = same₁ negative negative-scale

  pub order_same : {n : ℤ} {x x' y y' : Float}
      → At k n x x'
      → At k n y y'
      → total_order x y ≡ total_order x' y'
  order_same = same₂ total_order total_order-scale

  pub total-same : {n : ℤ} {x x' y y' : Float}
      → At k n x x'
      → At k n y y'
      → total_cmp x y ≡ total_cmp x' y'
  total-same = same₂ total_cmp total_cmp-scale

-- ---- the rules for control, with results in any relation

-- a choice by a test that comes out the same, of values in any relation
pub choose : {A : Type 0} (R : A → A → Type 0) {b b' : Bool} {x x' y y' : A}
    → b ≡ b'
    → R x x'
    → R y y'
    → R (prelude.if◌then◌else◌ b x y) (prelude.if◌then◌else◌ b' x' y')
choose R {b = true} {b' = true} e f g = f
choose R {b = true} {b' = false} e f g = absurd (true≢false e)
choose R {b = false} {b' = true} e f g = absurd (false≢true e)
choose R {b = false} {b' = false} e f g = g

module _ {A : Type 0} {R : A → A → Type 0} where
  infixl 50 ◌>>=◌
  infixl 40 if◌then◌else◌
  pub pure : {x x' : A} → R x x' → Both R (traced.pure x) (traced.pure x')
  pure h = record { results = λ r r'. h }

  pub ◌>>=◌ : {B : Type 0} {S : B → B → Type 0} {m m' : Traced A} {f f' : A → Traced B}
      → Both R m m'
      → ((x x' : A) → R x x' → Both S (f x) (f' x'))
      → Both S (traced.◌>>=◌ m f) (traced.◌>>=◌ m' f')
  ◌>>=◌ {m = m} {m' = m'} {f = f} {f' = f'} h g = record {
    results = λ r r'.
        let x =
        h.results
        (and_l m.regular (f m.value).regular r)
        (and_l m'.regular (f' m'.value).regular r') in
        (g m.value m'.value x).results
        (and_r m.regular (f m.value).regular r)
        (and_r m'.regular (f' m'.value).regular r');
  }

  pub if◌then◌else◌ : {b b' : Bool} {m m' l l' : Traced A}
      → b ≡ b'
      → Both R m m'
      → Both R l l'
      → Both R (prelude.if◌then◌else◌ b m l) (prelude.if◌then◌else◌ b' m' l')
  if◌then◌else◌ = choose (Both R)

  -- a weaker relation
  pub both-map : {S : A → A → Type 0} {m m' : Traced A}
      → ((x x' : A) → R x x' → S x x')
      → Both R m m'
      → Both S m m'
  both-map {m = m} {m' = m'} f h =
      record { results = λ r r'. f m.value m'.value (h.results r r') }

-- a result at degree 0 is equal in the two runs
pub equal : {k : ℤ} {m m' : Traced Float} → Scales k (pos 0) m m' → Both {A = Float} ◌≡◌ m m'
equal = both-map (λ _ _ h. at_zero h)

-- a computation whose inputs are equal in the two runs
pub alike : {A : Type 0} {m : Traced A} → Both ◌≡◌ m m
alike = record { results = λ r r'. refl }

-- results that are equal in the two runs: what follows them needs to be shown of one value
module _ {A B : Type 0} {S : B → B → Type 0} where
  infixl 50 ◌>>≡◌
  pub ◌>>≡◌ : {m m' : Traced A} {f f' : A → Traced B}
      → Both ◌≡◌ m m'
      → ((x : A) → Both S (f x) (f' x))
      → Both S (traced.◌>>=◌ m f) (traced.◌>>=◌ m' f')
  ◌>>≡◌ {f = f} {f' = f'} h g = h >>= λ x x' e. subst (λ (y : A). Both S (f x) (f' y)) e (g x)

-- what follows a step that can stop: of values in a relation, or of one value in both runs
module _ {A B : Type 0} {S : A → A → Type 0} {R : B → B → Type 0} {none none' : Traced B}
    {f f' : A → Traced B} where
  pub with_some : {o o' : Option A}
      → AtOption S o o'
      → Both R none none'
      → ((x x' : A) → S x x' → Both R (f x) (f' x'))
      → Both R (traced.with_some o none f) (traced.with_some o' none' f')
  with_some (some-at {a} {a'} h) none next = next a a' h
  with_some none-at none next = none

module _ {A B : Type 0} {R : B → B → Type 0} {none none' : Traced B} {f f' : A → Traced B} where
  pub with_same : (o : Option A)
      → Both R none none'
      → ((x : A) → Both R (f x) (f' x))
      → Both R (traced.with_some o none f) (traced.with_some o none' f')
  with_same (Some x) none next = next x
  with_same None none next = none

-- A computation with marks and one without: their values are in a relation R, which forgets the
-- marks, and both meet the premise of the scaling rule or neither does. A rule for each form of a
-- definition, so that the proof of a stage is its definition again: `>>≡` after a step without
-- marks, which is the same in both, and `>>=` after one with marks; `with_same` where a step
-- without marks can stop. Assumes nothing.
use Rattle.std.proofs.Common.{◌≡◌, Bool, true, false, ◌&&◌, refl, ap, ap₂, true≢false}
use mathlib.Core.Bool.{false≢true}
use Rattle.std.specs.Prelude as prelude
use Rattle.std.specs.Prelude.{Option, Some, None}
use Rattle.ieee754.specs.Traced as traced
use Rattle.ieee754.specs.Traced.{Traced}

pub record Forgets {A B : Type 0} (R : A → B → Type 0) (m : Traced A) (m' : Traced B) : Type 0 where
  pub value : R m.value m'.value
  pub regular : m.regular ≡ m'.regular

-- a choice by a test that comes out the same
pub choose : {A B : Type 0} (R : A → B → Type 0) {b b' : Bool} {x y : A} {x' y' : B}
    → b ≡ b'
    → R x x'
    → R y y'
    → R (prelude.if◌then◌else◌ b x y) (prelude.if◌then◌else◌ b' x' y')
choose R {b = true} {b' = true} e h g = h
choose R {b = true} {b' = false} e h g = absurd (true≢false e)
choose R {b = false} {b' = true} e h g = absurd (false≢true e)
choose R {b = false} {b' = false} e h g = g

module _ {A B : Type 0} {R : A → B → Type 0} where
  infixl 50 ◌>>=◌
  infixl 40 if◌then◌else◌
  pub pure : {x : A} {x' : B} → R x x' → Forgets R (traced.pure x) (traced.pure x')
  pure h = record { value = h; regular = refl }

  pub if◌then◌else◌ : (b : Bool) {m l : Traced A} {m' l' : Traced B}
      → Forgets R m m'
      → Forgets R l l'
      → Forgets R (prelude.if◌then◌else◌ b m l) (prelude.if◌then◌else◌ b m' l')
  if◌then◌else◌ b = choose (Forgets R) (refl {a = b})

  pub ◌>>=◌ : {C D : Type 0} {S : C → D → Type 0} {m : Traced A} {m' : Traced B}
      {k : A → Traced C} {k' : B → Traced D}
      → Forgets R m m'
      → ((x : A) (x' : B) → R x x' → Forgets S (k x) (k' x'))
      → Forgets S (traced.◌>>=◌ m k) (traced.◌>>=◌ m' k')
  ◌>>=◌ {m = m} {m' = m'} h next =
      let rest = next m.value m'.value h.value in
      record { value = rest.value; regular = ap₂ ◌&&◌ h.regular rest.regular }

module _ {A C D : Type 0} {S : C → D → Type 0} where
  infixl 50 ◌>>≡◌
  pub ◌>>≡◌ : (m : Traced A) {k : A → Traced C} {k' : A → Traced D}
      → ((x : A) → Forgets S (k x) (k' x))
      → Forgets S (traced.◌>>=◌ m k) (traced.◌>>=◌ m k')
  m >>≡ next =
      let rest = next m.value in
      record { value = rest.value; regular = ap (λ (r : Bool). m.regular && r) rest.regular }

-- what follows a step that can stop, with one value in both
module _ {A C D : Type 0} {S : C → D → Type 0} {none : Traced C} {none' : Traced D} where
  pub with_same : (o : Option A) {k : A → Traced C} {k' : A → Traced D}
      → Forgets S none none'
      → ((x : A) → Forgets S (k x) (k' x))
      → Forgets S (traced.with_some o none k) (traced.with_some o none' k')
  with_same (Some x) none next = next x
  with_same None none next = none

-- How many roots an answer has that is not refused, said of the case that it is (`count_at`), and
-- that a refusal leaves the lent doubles and the kind as they were (`as-held`, `kind-held`); and
-- that a cubic's answer is no pair (`no-cubic-pair`). Assumes nothing.
use Prim.Native.Nat.{ℕ}
use mathlib.Core.Path.{◌≡◌, refl, subst}
use mathlib.Core.List.{List, []}
use native.Mathlib.Omega.{arith}
use lib.Ieee.{Float}
use lib.ListN.{length}
use Rattle.polynomial.specs.Answer.{number, values}
use Rattle.polynomial.specs.declared.Roots.TheVariants.{Two, Double, Lifted, One}
use Rattle.p3p.specs.Types.{Roots, Refused}
use Rattle.p3p.specs.RootsLent.{roots_after, kind_after}
use Rattle.lent_answers.proofs.WriteLaws.{when-refused}

module _ {answer : Roots} {k : ℕ} (count : number answer ≡ 0 → length (values answer) ≡ k) where
  pub count_at : {r : Roots} → answer ≡ r → number r ≡ 0 → length (values r) ≡ k
  count_at e = subst (λ (r : Roots). number r ≡ 0 → length (values r) ≡ k) e count

  -- a refusal that had number 0 would have k roots, and it has none
  nonzero : {n : ℕ} → (0 ≡ k → ⊥) → answer ≡ Refused n → n ≡ 0 → ⊥
  nonzero some e z = some (count_at e z)

  pub as-held : (n : ℕ) (held : List Float)
      → (0 ≡ k → ⊥)
      → answer ≡ Refused n
      → held ≡ roots_after (Refused n) held
  as-held n held some e = when-refused [] held (nonzero some e)

  pub kind-held : (n held : ℕ)
      → (0 ≡ k → ⊥)
      → answer ≡ Refused n
      → held ≡ kind_after (Refused n) held
  kind-held n held some e = when-refused 0 held (nonzero some e)

-- an answer of a cubic, which has one root where it is not refused, is no pair
pub no-cubic-pair : (r : Roots)
    → ((x : Float) → r ≡ One x → ⊥)
    → ((n : ℕ) → r ≡ Refused n → ⊥)
    → (number r ≡ 0 → length (values r) ≡ 1)
    → ⊥
no-cubic-pair (Two x y) root refusal one = let e = one refl in omega (arith, e)
no-cubic-pair (Double x) root refusal one = let e = one refl in omega (arith, e)
no-cubic-pair (Lifted x) root refusal one = let e = one refl in omega (arith, e)
no-cubic-pair (One x) root refusal one = root x refl
no-cubic-pair (Refused n) root refusal one = refusal n refl

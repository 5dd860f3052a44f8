-- `listing_program::command::requested_by` meets its contract: what `==` answers of two slices is
-- the definition's `same`. Assumes nothing.
use Rattle.std.proofs.Common.{◌≡◌, ℕ, Bool, true, false, cond, nat_eq, List, [], ◌∷◌, sym, refl, ap, ◌∙◌}
use mathlib.Core.Bool.{◌&&◌}
use lib.Pointwise.{pointwise}
use Rattle.listing.specs.Bytes.{ascii}
use Rattle.listing_program.specs.Requests.{same}
use Rattle.listing_program.proofs.command.requested_by.Goals as goal

both : (a b : Bool) → cond a b false ≡ (a && b)
both true b = refl
both false b = refl

same_pointwise : (xs ys : List ℕ) → same xs ys ≡ pointwise nat_eq xs ys
same_pointwise [] [] = refl
same_pointwise [] (y ∷ ys) = refl
same_pointwise (x ∷ xs) [] = refl
same_pointwise (x ∷ xs) (y ∷ ys) =
    rw (same_pointwise xs ys) (both (nat_eq x y) (pointwise nat_eq xs ys))

-- neither text is the argument
pub returns-else-eq-2 : goal.returns-else-eq-2
returns-else-eq-2 c =
    let argument = c.args.argument.now in
    let no_help : same argument (ascii "--help") ≡ false =
    same_pointwise argument (ascii "--help")
    ∙ ap (λ (ys : List ℕ). pointwise nat_eq argument ys) (sym c.as_slice.ensures)
    ∙ sym c.eq.ensures ∙ c.if-eq.false in
    let no_version : same argument (ascii "--version") ≡ false =
    same_pointwise argument (ascii "--version")
    ∙ ap (λ (ys : List ℕ). pointwise nat_eq argument ys) (sym c.as_slice-else-eq.ensures)
    ∙ sym c.eq-else-eq.ensures ∙ c.if-eq-2.false in
    rw (no_help, no_version) refl

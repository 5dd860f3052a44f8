-- What is held where an answer is refused and where it is not, a flag, the four slots one after
-- another, and a plate read back. Assumes nothing.
use Rattle.std.specs.Prelude.{if◌then◌else◌}
use Prim.Native.Nat.{ℕ}
use mathlib.Core.Path.{◌≡◌, refl, sym, ap}
use mathlib.Core.Bool.{Bool, true, false, not}
use mathlib.Core.List.{List, ◌++◌}
use borrow.Author.Tests.{eq-eqb, ne_eqb}
use lib.Dec.{eqb}
use lib.ListN.{length, get_or}
use mir.Val.{bool_byte}
use Rattle.frames.proofs.Entries.{list-of-four}
use Rattle.linalg.specs.Matrices.{from_columns}
use Rattle.frames.specs.Lent.{vector_at, world_at, entries}
use Rattle.lent_answers.specs.Types.{Pose, Plate}
use Rattle.lent_answers.specs.Solved.{all_entries, flag}
use Rattle.lent_answers.specs.Plated.{plate_in, plate_entries}

-- ---- by the refusal number
module _ {A : Type 0} {n : ℕ} (new held : A) where
  pub when-answered : n ≡ 0 → new ≡ (if eqb n 0 then new else held)
  when-answered h = sym (ap (λ (b : Bool). if b then new else held) (eq-eqb n 0 h))

  pub when-refused : (n ≡ 0 → ⊥) → held ≡ (if eqb n 0 then new else held)
  when-refused h = sym (ap (λ (b : Bool). if b then new else held) (ne_eqb n 0 h))

-- ---- a flag, as the code makes it
pub as-flag : (b : Bool) → bool_byte b ≡ flag b
as-flag true = refl
as-flag false = refl

-- ---- the four slots one after another
pub four-entries : (ps : List Pose) (d : Pose)
    → length ps ≡ 4
    → entries (get_or ps 0 d) ++ entries (get_or ps 1 d)
    ++ entries (get_or ps 2 d) ++ entries (get_or ps 3 d)
    ≡ all_entries ps
unfolding entries all_entries
four-entries ps d h = ap all_entries (list-of-four ps d h)

-- ---- what is written of a plate is read back as that plate
some-inverse : (b : Bool) → not (eqb (flag b) 0) ≡ b
some-inverse true = refl
some-inverse false = refl

pub plate-back : (plate : Plate) → plate_in (plate_entries plate) (flag plate.invertible) ≡ plate
unfolding plate_in plate_entries world_at vector_at from_columns
plate-back plate = rw (some-inverse plate.invertible)

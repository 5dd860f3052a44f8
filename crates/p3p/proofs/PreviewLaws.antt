-- A preview over lent memory is what replacing the target on a copy of the plate and solving with
-- that copy give (`copy-shown`), and so what they give on the plate itself (`as-shown`); or it is
-- the replacement's refusal with plus zeros (`refusal-shown`). Document 02, §5. Assumes nothing.
use Prim.Native.Nat.{ℕ}
use mathlib.Core.Path.{◌≡◌, refl, sym, ap}
use mathlib.Core.List.{List}
use borrow.Author.Tests.{eq-eqb, ne_eqb}
use lib.Ieee.{Float, nan}
use lib.ListN.{get_or}
use Rattle.linalg.specs.Matrices.{from_columns}
use Rattle.frames.specs.Lent.{vector_at, world_at, bearings_at}
use Rattle.lambdatwist.specs.Solve.{refused}
use Rattle.plates.specs.Plate.{zero_edges}
use Rattle.plates.specs.SolvePlate.{solve_plate}
use Rattle.preview.specs.Preview.{edges_shown, answer_shown, preview}
use Rattle.lent_answers.specs.Plated.{plate_in, plate_entries, plate_after, inverse_after}
use Rattle.lent_answers.proofs.WriteLaws.{plate-back}
use Rattle.p3p.specs.PlateLent.{replaced, solved_plate}
use Rattle.p3p.specs.PreviewLent.{previewed}
use Rattle.p3p.specs.Types.{SquaredEdges, Plate, Outcome, Shown}

-- a plate that is read and written again is read as the same one
pub read_again : (xs ys : List Float) (has_inverse : ℕ) {plate : Plate}
    → plate ≡ plate_in xs has_inverse
    → ys ≡ plate_entries plate
    → plate_in ys has_inverse ≡ plate_in xs has_inverse
unfolding plate_in plate_entries world_at vector_at from_columns
read_again xs ys has_inverse read written = rw (written, read)

-- the squared edges that stand in memory
abbrev edges_in : List Float → SquaredEdges
edges_in xs = record { a01 = get_or xs 9 nan; a02 = get_or xs 10 nan; a12 = get_or xs 11 nan }

-- of a plate in memory, xs, and a copy of it, ys, which is read as the same plate
module _ (xs ys : List Float) (has_inverse target : ℕ) (point bearings : List Float)
    (same : plate_in ys has_inverse ≡ plate_in xs has_inverse) where
  -- what the replacement does to the copy
  abbrev copy : Outcome
  copy = replaced ys has_inverse target point

  abbrev shown : Shown
  shown = previewed xs has_inverse target point bearings

  by_copy : shown
      ≡ record { answer = answer_shown copy (bearings_at bearings 0); edges = edges_shown copy }
  unfolding previewed preview replaced
  by_copy = rw same

  pub refusal-shown : {n : ℕ}
      → n ≡ copy.refusal
      → (n ≡ 0 → ⊥)
      → shown ≡ record { answer = refused n; edges = zero_edges }
  unfolding answer_shown edges_shown
  refusal-shown {n} number h = rw (by_copy, ← number, ne_eqb n 0 h)

  -- the copy once the target is replaced
  abbrev after : Plate
  after = plate_in (plate_after copy ys) (inverse_after copy has_inverse)

  read_back : copy.refusal ≡ 0 → after ≡ copy.plate
  unfolding plate_after inverse_after
  read_back h = rw (eq-eqb copy.refusal 0 h) (plate-back copy.plate)

  abbrev shown_of : Plate → Shown
  shown_of p = record { answer = (solve_plate p (bearings_at bearings 0)).value; edges = p.edges }

  pub copy-shown : copy.refusal ≡ 0
      → shown
      ≡ record {
        answer = solved_plate (plate_after copy ys) (inverse_after copy has_inverse) bearings;
        edges = edges_in (plate_after copy ys);
      }
  unfolding answer_shown edges_shown solved_plate plate_in
  copy-shown h = rw (by_copy, eq-eqb copy.refusal 0 h) (ap shown_of (sym (read_back h)))

-- and so, of the plate's own memory: what is shown is what accepting it gives
pub as-shown : (xs : List Float) (has_inverse target : ℕ) (point bearings : List Float)
    → (replaced xs has_inverse target point).refusal ≡ 0
    → previewed xs has_inverse target point bearings
    ≡ record {
      answer = solved_plate (plate_after (replaced xs has_inverse target point) xs)
          (inverse_after (replaced xs has_inverse target point) has_inverse) bearings;
      edges = edges_in (plate_after (replaced xs has_inverse target point) xs);
    }
as-shown xs has_inverse target point bearings =
    copy-shown xs xs has_inverse target point bearings refl

-- Demand 1 of the mission for the preview of a moved target, as specs/OneAnswerPreview.antt states
-- it. Assumes nothing.
use Prim.Native.Nat.{ℕ}
use mathlib.Core.Path.{subst⁻¹}
use Rattle.linalg.specs.declared.vector3.Vector3.{Vector3}
use Rattle.frames.specs.declared.bearings.Bearings.{Bearings}
use Rattle.plates.specs.declared.plate.Plate.{Plate}
use Rattle.plates.specs.Target.{with_target}
use Rattle.preview.specs.declared.preview.Shown.{Shown}
use Rattle.preview.specs.Preview.{preview}
use Rattle.preview.specs.Shows.{Shows, not_finite, no-such-target, moved}
use Rattle.preview.proofs.PreviewShows.{preview-shows}
use Rattle.theorems.specs.OneAnswer.{OneAnswer}
use Rattle.theorems.proofs.OneAnswer.{one_answer}
use Rattle.plate_theorems.specs.OneAnswerPreview.{OneAnswerPreview}

module _ (plate : Plate) (number : ℕ) (point : Vector3) (bearings : Bearings) where
  shown-one : (shown : Shown)
      → Shows plate number point bearings shown
      → OneAnswerPreview plate number point bearings shown
  shown-one _ (not_finite h) = not_finite h
  shown-one _ (no-such-target h above) = no-such-target h above
  shown-one _ (moved h below answer solved) =
      let world = with_target plate.world number point in
      moved h below answer
      (subst⁻¹ (OneAnswer (record { world = world; bearings = bearings })) solved
      (one_answer world bearings))

  pub one-answer-preview :
      OneAnswerPreview plate number point bearings (preview plate number point bearings)
  one-answer-preview = shown-one _ (preview-shows plate number point bearings)

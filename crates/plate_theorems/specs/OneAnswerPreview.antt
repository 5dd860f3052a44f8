-- Demand 1 of the mission, for the preview of a moved target, whatever the plate holds (document
-- 02, §5): number 1 where the new point is not finite, then 11 where there is no such target, with
-- plus zeros; then the one answer of the solve on the points with the target moved, and their
-- squared edges. That it holds of every preview is `one-answer-preview` in the proofs.
use Rattle.std.specs.Prelude.{ℕ}
use Rattle.linalg.specs.declared.vector3.Vector3.{Vector3}
use Rattle.frames.specs.declared.bearings.Bearings.{Bearings}
use Rattle.plates.specs.declared.plate.Plate.{Plate}
use Rattle.preview.specs.declared.preview.Shown.{Shown}
use Rattle.preview.specs.Shows.{ShownOf}
use Rattle.theorems.specs.OneAnswer.{OneAnswer}

abbrev pub OneAnswerPreview : Plate → ℕ → Vector3 → Bearings → Shown → Type 0
OneAnswerPreview plate number point bearings =
    ShownOf (λ world answer. OneAnswer (record { world = world; bearings = bearings }) answer)
    plate number point

-- The loop over the depth candidates: the turn of one of them, and the turns of those after it.
-- Assumes nothing.
use Rattle.std.proofs.Common.{◌≡◌, refl, ℕ, ◌+◌, ◌<◌, List, length, drop, get_or}
use Rattle.std.proofs.lemmas.List.{drop_more}
use Rattle.lambdatwist.specs.Poses.{pose_turn, pose_turns}
use Rattle.lambdatwist.specs.Types.{Matrix3, P3pInput, Measured, Solutions, Candidate}

pub turns_go : (input : P3pInput) (measured : Measured) (inverse : Matrix3)
    (candidates : List Candidate) (at : ℕ) (d : Candidate) (output : Solutions)
    → at < length candidates
    → (pose_turns input measured inverse (drop (at + 1) candidates)
    (pose_turn input measured inverse output (get_or candidates at d)).value).value
    ≡ (pose_turns input measured inverse (drop at candidates) output).value
unfolding pose_turns
turns_go input measured inverse candidates at d output h = rw (drop_more candidates at d h) refl

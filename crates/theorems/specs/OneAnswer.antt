-- Demand 1 of the mission, for the solve: the answer to eighteen doubles, finite or not, is one to
-- four poses or number 1, 2 or 3; a refusal holds no pose, plus zero in every slot and no mark.
-- That it holds of every input and the answer of `solve` to it is `one_answer` in the proofs.
use Rattle.std.specs.Prelude.{◌≡◌, Bool, false, not, ◌&&◌, ◌||◌, [], ◌∷◌, ℕ, ◌≤◌, T}
use Rattle.std.specs.Float.{binary64}
use Rattle.std.specs.Float.Ieee.{mul, le}
use Rattle.ieee754.specs.Literal.{sixty_four, epsilon}
use Rattle.frames.specs.Poses.{zero_pose}
use Rattle.p3p_common.specs.Input.{input_finite}
use Rattle.p3p_common.specs.PoseSlots.{PoseSlots}
use Rattle.orderings.specs.Measure.{measure, measured_cubic}
use Rattle.orderings.specs.Cubic.{is_unusable}
use Rattle.orderings.specs.Permutation.{best_permutation}
use Rattle.theorems.specs.Types.{World, Bearings, P3pInput, Answer}

-- One to four poses and no refusal. `PoseSlots` says that there are at most four, that their twelve
-- numbers are finite, that each took at most five updates, and that the slots beyond the count hold
-- plus zeros, 0 and no mark.
pub record Accepted (answer : Answer) : Type 0 where
  pub refusal : answer.refusal ≡ 0
  pub one-or-more : 1 ≤ answer.count
  pub slots : PoseSlots answer.count answer.poses answer.updates answer.lifted

-- refused with a number: no pose, and plus zeros, 0 and no mark in all four slots
pub record Refused (number : ℕ) (answer : Answer) : Type 0 where
  pub refusal : answer.refusal ≡ number
  pub count : answer.count ≡ 0
  pub poses : answer.poses ≡ zero_pose ∷ zero_pose ∷ zero_pose ∷ zero_pose ∷ []
  pub updates : answer.updates ≡ 0 ∷ 0 ∷ 0 ∷ 0 ∷ []
  pub lifted : answer.lifted ≡ false ∷ false ∷ false ∷ false ∷ []

-- ---- question 2 of document 01: is there a usable ordering?
-- one ordering of the points and bearings is not
unfoldable pub ordering_unusable : World → Bearings → Bool
ordering_unusable world bearings =
    (is_unusable (measured_cubic (measure world bearings).value).value).value

-- there is none: the given one is unusable, and of the best conditioned of the five others the
-- condition is at most 64 * 2 ^ -52 or it is unusable too
unfoldable pub no_ordering : P3pInput → Bool
no_ordering input =
    let best = (best_permutation input).value in
    ordering_unusable input.world input.bearings
    && (le best.condition (mul binary64 sixty_four epsilon)
    || ordering_unusable best.world best.bearings)

-- ---- number 1 where question 1 is answered by no, and only there; of others, number 2 where there
--      is no usable ordering, and only there; otherwise poses, or number 3
pub data NamedAnswer (finite none : Bool) (answer : Answer) : Type 0 where
  refused-1 : T (not finite) → Refused 1 answer → NamedAnswer finite none answer
  refused-2 : T finite → T none → Refused 2 answer → NamedAnswer finite none answer
  refused-3 : T finite → T (not none) → Refused 3 answer → NamedAnswer finite none answer
  accepted : T finite → T (not none) → Accepted answer → NamedAnswer finite none answer

-- of the eighteen doubles, are they all finite?
abbrev pub OneAnswer : P3pInput → Answer → Type 0
OneAnswer input answer = NamedAnswer (input_finite input) (no_ordering input) answer

-- What the four slots of a solve hold, at its start and after each push: at most four poses, each
-- of twelve finite numbers and after at most five depth updates, and in the slots beyond the count
-- plus zeros, 0 and no mark. Demand 1 of the mission is stated with it (document 01: "A pose is
-- nine rotation entries and three translation entries, all finite"; document 02, §8: "empty slots:
-- not set").
use Rattle.std.specs.Prelude.{◌≡◌, Bool, false, List, ℕ, ◌≤◌, ◌<◌, T, length, get_or}
use Rattle.linalg.specs.Vectors.{all_finite}
use Rattle.linalg.specs.Matrices.{mat_finite}
use Rattle.frames.specs.Poses.{zero_pose}
use Rattle.p3p_common.specs.Types.{Pose}

-- four slots, numbered from 0 (`get_or slots i unused` is slot i): of those below the count `Holds`
-- is true, and the rest hold `unused`
pub record Filled {A : Type 0} (Holds : A → Type 0) (unused : A) (count : ℕ) (slots : List A)
    : Type 0 where
  pub four : length slots ≡ 4
  pub held : (i : ℕ) → i < count → Holds (get_or slots i unused)
  pub rest : (i : ℕ) → count ≤ i → get_or slots i unused ≡ unused

pub record FinitePose (pose : Pose) : Type 0 where
  pub rotation : T (mat_finite pose.rotation)
  pub translation : T (all_finite pose.translation)

-- a filled slot's mark is either
pub record PoseSlots (count : ℕ) (slots : List Pose) (counts : List ℕ) (marks : List Bool)
    : Type 0 where
  pub few : count ≤ 4
  pub poses : Filled FinitePose zero_pose count slots
  pub updates : Filled (λ (n : ℕ). n ≤ 5) 0 count counts
  pub lifted : Filled (λ (b : Bool). Unit {0}) false count marks

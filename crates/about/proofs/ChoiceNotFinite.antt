-- Where the checking target less the origin is not finite, the choice refuses with 10: it has no
-- finite score under any pose. Document 02, §1, asks no question of that difference. Assumes
-- nothing.
use mathlib.Core.Path.{◌≡◌}
use mathlib.Core.Bool.{not}
use mathlib.Core.List.{List}
use Prim.Native.Nat.{ℕ}
use lib.Dec.{T}
use Rattle.linalg.specs.Vectors.{vec_sub, all_finite}
use Rattle.choice.specs.Answer.{no_score}
use Rattle.choice.proofs.TargetNotFinite.{target-not-finite}
use Rattle.about.specs.ChooseAbout.{choose_about}
use Rattle.about.specs.Types.{Vector3, Pose}

pub difference-not-finite : (poses : List Pose) (count : ℕ) (origin target bearing : Vector3)
    → T (not (all_finite (vec_sub target origin).value))
    → (choose_about poses count origin target bearing).value ≡ no_score
unfolding choose_about
difference-not-finite poses count origin target bearing h =
    target-not-finite (vec_sub target origin).value bearing h poses count

-- The poses' lines, put one after another. Assumes nothing.
use Rattle.std.proofs.Common.{◌≡◌, ℕ, ◌+◌, ◌<◌, ◌≤◌, Bool, false, List, ◌++◌, length, get_or, ap, ◌∙◌, append_assoc, add-one}
use Rattle.frames.proofs.Entries.{inside-same}
use Rattle.frames.specs.Poses.{zero_pose}
use Rattle.listing_records.specs.Types.{Pose}
use Rattle.listing.specs.Lines.{Written, pose_line}
use Rattle.listing.proofs.Writing.{appended}
use Rattle.listing_records.specs.FrameLines.{pose_lines}

module _ (n : ℕ) (poses : List Pose) (updates : List ℕ) (lifted : List Bool) where
  abbrev lines : ℕ → List ℕ
  lines k = pose_lines n poses updates lifted k

  -- the line of the slot in place k, as it is read, whatever is read past the poses' end
  abbrev line_at : ℕ → Pose → List ℕ
  line_at k d =
      pose_line n (k + 1)
      (record { pose = get_or poses k d; updates = get_or updates k 0; lifted = get_or lifted k false })

  one_more : (k : ℕ) (d : Pose) → k < length poses → lines k ++ line_at k d ≡ lines (k + 1)
  unfolding pose_lines
  one_more k d h = rw (add-one, inside-same poses k d zero_pose h)

  -- after the first k lines the next one is put, for which there is room
  pub next_put : {capacity : ℕ} (l l' l'' : List ℕ) (k : ℕ) (d : Pose)
      → k < length poses
      → length l' + 320 ≤ capacity
      → l' ≡ l ++ lines k
      → Written capacity 320 l' (line_at k d) l''
      → l'' ≡ l ++ lines (k + 1)
  next_put l l' l'' k d h room e w =
      appended w room
      ∙ ap (λ (x : List ℕ). x ++ line_at k d) e
      ∙ append_assoc l (lines k) (line_at k d)
      ∙ ap (λ (x : List ℕ). l ++ x) (one_more k d h)

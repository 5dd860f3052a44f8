-- What `push` appends: the test of `push_if_positive` in two steps, whether a root gives depths,
-- and whether there is room for them.
use Rattle.std.specs.Prelude.{◌+◌, Bool, ltb, set, if◌then◌else◌}
use Rattle.depths.specs.DepthSlots.{candidate}
use Rattle.depths.specs.Types.{Vector3, Candidates, Option, Some, None, ChartDepths}

unfoldable pub pushed : Candidates → Option Vector3 → Bool → Candidates
pushed found (Some depths) lifted =
    if ltb found.count 4
    then record {
      lifted = found.lifted;
      count = found.count + 1;
      slots = set found.slots found.count (candidate found depths lifted);
    }
    else found
pushed found None lifted = found

-- of both roots of a chart's quadratic
abbrev pub pushed_both : Candidates → ChartDepths → Candidates
pushed_both found both =
    pushed (pushed found both.first both.lifted) both.second both.lifted

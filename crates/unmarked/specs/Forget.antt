-- An answer without its marks: the list `lifted` is dropped, and nothing else. What is claimed of
-- every input is `Forgotten`: the solve's answer, its marks forgotten, is the one that document 01
-- defines, with the same poses in the same order; and a run meets the premise of the scaling rule
-- where document 01's meets it. That it holds is `forgotten` in the proofs.
use Rattle.std.specs.Prelude.{◌≡◌}
use Rattle.lambdatwist.specs.declared.solve.Answer.{Answer}
use Rattle.lambdatwist.specs.Solve.{solve}
use Rattle.unmarked.specs.Solve as before
use Rattle.unmarked.specs.Types as unmarked
use Rattle.unmarked.specs.Types.{World, Bearings}

unfoldable pub forget : Answer → unmarked.Answer
forget answer = record {
  refusal = answer.refusal;
  count = answer.count;
  poses = answer.poses;
  updates = answer.updates;
}

pub record Forgotten (world : World) (bearings : Bearings) : Type 0 where
  pub answer : forget (solve world bearings).value ≡ (before.solve world bearings).value
  pub premise : (solve world bearings).regular ≡ (before.solve world bearings).regular

-- The four slots that are written are all that an answer has.
use Rattle.std.proofs.Common.{◌∙◌}
use Rattle.lambdatwist.proofs.AnswerSlots.{four-poses}
use Rattle.lent_answers.specs.Solved.{poses_after}
use Rattle.lent_answers.proofs.WriteLaws.{when-answered, four-entries}
use Rattle.lent_answers.proofs.solved.write_answer.Goals as goal

pub returns-then-answer-eq0-clause-poses_after : goal.returns-then-answer-eq0-clause-poses_after
unfolding poses_after
returns-then-answer-eq0-clause-poses_after c =
    c.all_entries.ensures
    ∙ four-entries c.args.answer.poses _ (four-poses c.args.answer c.well_formed.0)
    ∙ when-answered _ _ c.if-answer-eq0.true

-- Where a write fails, what the earlier ones wrote stands before what is left of it.
use Rattle.std.proofs.lemmas.Result.{on_err_weaker}
use Rattle.replay_words.proofs.Growth.{grows-behind, at-error}
use Rattle.replay_words.proofs.report.report.Goals as goal

pub returns-in_err-put-2-clause-failed : goal.returns-in_err-put-2-clause-failed
returns-in_err-put-2-clause-failed g c =
    at-error _ (grows-behind _ _ _ _ c.in_ok-put.ensures.written c.in_err-put-2.ensures.failed)

pub returns-in_err-put-3-clause-failed : goal.returns-in_err-put-3-clause-failed
returns-in_err-put-3-clause-failed g c =
    at-error _ (grows-behind _ _ _ _ c.in_ok-put.ensures.written
    (grows-behind _ _ _ _ c.in_ok-put-2.ensures.written c.in_err-put-3.ensures.failed))

pub returns-in_err-put-4-clause-failed : goal.returns-in_err-put-4-clause-failed
returns-in_err-put-4-clause-failed g c =
    at-error _ (grows-behind _ _ _ _ c.in_ok-put.ensures.written
    (grows-behind _ _ _ _ c.in_ok-put-2.ensures.written
    (grows-behind _ _ _ _ c.in_ok-put-3.ensures.written c.in_err-put-4.ensures.failed)))

pub returns-in_err-put-5-clause-failed : goal.returns-in_err-put-5-clause-failed
returns-in_err-put-5-clause-failed g c =
    at-error _ (grows-behind _ _ _ _ c.in_ok-put.ensures.written
    (grows-behind _ _ _ _ c.in_ok-put-2.ensures.written
    (grows-behind _ _ _ _ c.in_ok-put-3.ensures.written
    (grows-behind _ _ _ _ c.in_ok-put-4.ensures.written c.in_err-put-5.ensures.failed))))

pub returns-clause-failed : goal.returns-clause-failed
returns-clause-failed g c =
    on_err_weaker c.put-6.result (λ last. grows-behind _ _ _ _ c.in_ok-put.ensures.written
    (grows-behind _ _ _ _ c.in_ok-put-2.ensures.written
    (grows-behind _ _ _ _ c.in_ok-put-3.ensures.written
    (grows-behind _ _ _ _ c.in_ok-put-4.ensures.written
    (grows-behind _ _ _ _ c.in_ok-put-5.ensures.written last))))) c.put-6.ensures.failed

-- Newton's steps at one turn of their loop, with n steps in all of which i are done: where the next
-- step stops, where it goes on, and at the end. Assumes nothing.
use Rattle.std.proofs.Common.{◌≡◌, ℕ, suc, ◌+◌, ◌-◌, ◌<◌, ◌≤◌, arith}
use Rattle.std.specs.Prelude.{Float, Some, None}
use Rattle.cubic_parts.specs.Newton.{newton_step, newton_steps}
use Rattle.cubic_parts.specs.Types.{Monic}

pub step_stops : (n i : ℕ) (m : Monic) (root : Float)
    → i < n
    → (newton_step m root).value ≡ None
    → (newton_steps (n - i) m root).value ≡ root
unfolding newton_steps
step_stops n i m root h e =
    let left : n - i ≡ suc (n - (i + 1)) = omega arith in rw (left, e)

pub step_goes : (n i : ℕ) (m : Monic) (root next : Float)
    → i < n
    → (newton_step m root).value ≡ Some next
    → (newton_steps (n - i) m root).value ≡ (newton_steps (n - (i + 1)) m next).value
unfolding newton_steps
step_goes n i m root next h e =
    let left : n - i ≡ suc (n - (i + 1)) = omega arith in rw (left, e)

pub steps_end : (n i : ℕ) (m : Monic) (root : Float)
    → n ≤ i
    → (newton_steps (n - i) m root).value ≡ root
unfolding newton_steps
steps_end n i m root h = let left : n - i ≡ 0 = omega arith in rw left

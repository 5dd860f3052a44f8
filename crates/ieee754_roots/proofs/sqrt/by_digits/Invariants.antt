-- `by_digits` meets its contract: each turn finds one more digit (Digits.antt). Assumes nothing.
use Prim.Native.Nat.{◌+◌, ◌*◌, ◌^◌, ◌≤◌}
use Rattle.ieee754_roots.proofs.Digits.{Found}
use Rattle.ieee754_roots.proofs.sqrt.by_digits.Given as goal

abbrev pub invariant-loop-bit : goal.invariant-loop-bit
invariant-loop-bit l = Found (l.n * 2 ^ 52) l.root l.bit l.rest × (l.root + l.bit ≤ 2 ^ 53)

abbrev pub decreases-loop-bit : goal.decreases-loop-bit
decreases-loop-bit l = l.bit

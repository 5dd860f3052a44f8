-- `by_digits` meets its contract: each turn finds one more digit (Digits.antt). Assumes nothing.
use mathlib.Core.Path.{refl}
use native.Mathlib.Omega.{arith}
use Rattle.ieee754_roots.proofs.Digits.{rest_lt, one, none, last, up, down}
use Rattle.ieee754_roots.proofs.sqrt.by_digits.Goals as goal

pub overflow_sub-rest : goal.overflow_sub-rest
overflow_sub-rest c = omega arith

pub loop-bit-init : goal.loop-bit-init
loop-bit-init c = (
  record { power = (52, refl); some = omega arith; taken = omega arith; left = omega arith },
  omega arith,
)

pub overflow_mul-rest : goal.overflow_mul-rest
overflow_mul-rest c = omega (arith, rest_lt c.loop-bit.invariant.0)

pub overflow_mul-step : goal.overflow_mul-step
overflow_mul-step c = omega arith

pub overflow_add-step : goal.overflow_add-step
overflow_add-step c = omega arith

pub overflow_add-root : goal.overflow_add-root
overflow_add-root c = omega arith

pub loop-bit-smaller-then-step-rest : goal.loop-bit-smaller-then-step-rest
loop-bit-smaller-then-step-rest c = omega arith

pub loop-bit-preserved-then-step-rest : goal.loop-bit-preserved-then-step-rest
loop-bit-preserved-then-step-rest c = (
  one c.loop-bit.invariant.0 c.loop-bit-test.true c.if-step-rest.true,
  omega arith,
)

pub loop-bit-smaller : goal.loop-bit-smaller
loop-bit-smaller c = omega arith

pub loop-bit-preserved : goal.loop-bit-preserved
loop-bit-preserved c = (
  none c.loop-bit.invariant.0 c.loop-bit-test.true c.if-step-rest.false,
  omega arith,
)

pub overflow_add-result : goal.overflow_add-result
overflow_add-result c = omega arith

pub returns-then-root-rest : goal.returns-then-root-rest
returns-then-root-rest c = up (last c.loop-bit.invariant.0 c.loop-bit-test.false) (omega arith)

pub returns-else-root-rest : goal.returns-else-root-rest
returns-else-root-rest c =
    down (last c.loop-bit.invariant.0 c.loop-bit-test.false) (omega arith)

-- `fast_cbrt`: the test on the way to the steps tells that the magnitude is finite, and so a
-- number.
use Rattle.ieee754_parts.proofs.Reading.{finite-not-nan}
use Rattle.ieee754_parts.proofs.Tests.{answered}
use Rattle.cubic_parts.proofs.fast_cbrt.fast_cbrt.Goals as goal

pub cbrt_steps-requires : goal.cbrt_steps-requires
cbrt_steps-requires c =
    finite-not-nan _ (answered c.is_finite.ensures c.if-not-is_finite.false)

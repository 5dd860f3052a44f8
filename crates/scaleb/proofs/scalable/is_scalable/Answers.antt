-- `is_scalable` meets its contract: where 2 ^ k times a double is taken goes by the exponent of its
-- digits. Assumes nothing.
use Prim.Native.Nat.{ℕ, ◌*◌, ◌^◌}
use mathlib.Core.Path.{sym, ap, ◌∙◌}
use native.Mathlib.Nat.{zero-mul}
use lib.Dec.{lit<}
use Rattle.ieee754_parts.proofs.Tests.{answered, denied}
use Rattle.ieee754.proofs.Exponent.{normal-value}
use Rattle.scaleb.proofs.ScalableLaws.{scalable-infinite, scalable-nothing}
use Rattle.scaleb.proofs.ScalableLaws.{scalable-exponent}
use Rattle.scaleb.proofs.scalable.is_scalable.Goals as goal

pub returns-then-not-is_finite : goal.returns-then-not-is_finite
returns-then-not-is_finite c =
    sym (scalable-infinite c.args.reach.k c.args.x
    (denied c.is_finite.ensures c.if-not-is_finite.true))

pub unpack-a-requires : goal.unpack-a-requires
unpack-a-requires c = answered c.is_finite.ensures c.if-not-is_finite.false

pub returns-then-a-eq0 : goal.returns-then-a-eq0
returns-then-a-eq0 c =
    let a = c.unpack-a.result in
    sym (scalable-nothing c.args.reach.k c.args.x a.negative (a.sig * 2 ^ a.exp)
    (2 ^ 1074)
    (ap (λ (m : ℕ). m * 2 ^ a.exp) c.if-a-eq0.true ∙ zero-mul (2 ^ a.exp)) (lit< tt)
    c.unpack-a.ensures.is)

pub returns : goal.returns
returns c =
    let n = c.normalise-n in
    let k = c.args.reach.k in
    let x = c.args.x in
    let a = c.unpack-a.result in
    sym (scalable-exponent k c.from_lowest.result c.from_lowest.ensures.counts
    n.result.sig n.result.exp n.ensures.low n.ensures.high x a.negative
    (normal-value x a.negative a.sig a.exp n.result c.unpack-a.ensures.is n.ensures))

-- `cbrt_finite` meets its contract: the root of a double goes by its value. Assumes nothing.
use Prim.Native.Nat.{ℕ, ◌*◌, ◌^◌}
use mathlib.Core.Path.{sym, ap, ◌∙◌}
use native.Mathlib.Nat.{zero-mul, pos_of_ne-zero}
use borrow.Author.Rules.{rules}
use lib.Dec.{lit<}
use Rattle.ieee754.proofs.RootValues.{cbrt-zero, cbrt-of}
use Rattle.ieee754.proofs.Exponent.{normal-value, normal_pos}
use Rattle.ieee754.proofs.cbrt.cbrt_finite.Statement.{statement}
use Rattle.ieee754.proofs.cbrt.cbrt_finite.Tie as tie

returns : tie.Need-returns-then-a-eq0
returns c =
    let u = c.before.before in
    let a = u.unpack-a.result in
    cbrt-zero u.before.args.x a.negative (a.sig * 2 ^ a.exp) (2 ^ 1074)
    (ap (λ (m : ℕ). m * 2 ^ a.exp) c.if-a-eq0.true ∙ zero-mul (2 ^ a.exp)) (lit< tt)
    u.unpack-a.ensures.is

normalise-requires : tie.Need-normalise-n-requires
normalise-requires c κs =
    (c.before.before.unpack-a.ensures.digits, pos_of_ne-zero c.if-a-eq0.false)

returns-2 : tie.Need-returns
returns-2 c =
    let after-normalise = c.before in
    let after-struct-known = after-normalise.before.before in
    let u = after-struct-known.before in
    let n = after-normalise.normalise-n in
    let x = u.before.args.x in
    let a = u.unpack-a.result in
    let is = u.unpack-a.ensures.is in
    c.scaled.ensures
    ∙ sym (cbrt-of x a.negative (n.result.sig * 2 ^ n.result.exp) (2 ^ 1126)
    (normal_pos x a.negative a.sig a.exp n.result is n.ensures) (lit< tt)
    (normal-value x a.negative a.sig a.exp n.result is n.ensures))

pub cbrt_finite_spec : {M : Type 1} → statement M
cbrt_finite_spec =
    tie.close (tie.spec (λ c _. search rules) returns normalise-requires (λ c _. search rules)
    returns-2)

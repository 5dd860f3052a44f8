-- `ieee754::is_finite::is_finite` meets its contract: 1.0 / 0.0 is the infinity, and of all values
-- only it, its negation and the NaN are not between the two. Assumes nothing.
use mathlib.Core.Path.{◌≡◌, refl, sym, subst}
use mathlib.Core.Bool.{true, false}
use lib.Ieee.{Float, nan, inf, fin, binary64, of_bits, div, neg, lt}
use lib.Ieee.Scale.{finite}
use Rattle.ieee754.proofs.is_finite.is_finite.Statement.{statement}
use Rattle.ieee754.proofs.is_finite.is_finite.Tie as tie

-- 1.0 and 0.0 by their bit patterns
infinity : inf false ≡ div binary64 (of_bits binary64 0x3ff0_0000_0000_0000) (of_bits binary64 0)
unfolding div of_bits
infinity = refl

between : (x : Float) → lt x (inf false) ≡ true → lt (neg (inf false)) x ≡ finite x
unfolding lt neg
between nan h = refl
between (inf true) h = refl
between (inf false) h = sym h
between (fin s m e) h = refl

outside : (x : Float) → lt x (inf false) ≡ false → false ≡ finite x
unfolding lt
outside nan h = refl
outside (inf s) h = refl
outside (fin s m e) h = sym h

returns : tie.Need-returns-then-x-infinity
returns c =
    let x = c.before.args.x in
    subst (λ (i : Float). lt x i ≡ true → lt (neg i) x ≡ finite x) infinity (between x)
    c.if-x-infinity.true

returns-2 : tie.Need-returns-else-x-infinity
returns-2 c =
    let x = c.before.args.x in
    subst (λ (i : Float). lt x i ≡ false → false ≡ finite x) infinity (outside x) c.if-x-infinity.false

pub is_finite_spec : {M : Type 1} → statement M
is_finite_spec = tie.close (tie.spec returns returns-2)

-- `cbrt` meets its contract: what is left beside `cbrt_finite` are the definition's clauses for
-- infinities and the NaN. Assumes nothing.
use mathlib.Core.Path.{◌≡◌, refl}
use mathlib.Core.Bool.{not}
use borrow.Author.Rules.{rules}
use lib.Dec.{T}
use lib.Ieee.{Float, nan, inf, fin}
use lib.Ieee.Scale.{finite}
use Rattle.ieee754.specs.Root.{cbrt}
use Rattle.ieee754_parts.proofs.Tests.{answered, denied}
use Rattle.ieee754.proofs.cbrt.cbrt.Statement.{statement}
use Rattle.ieee754.proofs.cbrt.cbrt.Tie as tie

itself : (x : Float) → T (not (finite x)) → x ≡ cbrt x
unfolding cbrt
itself nan h = refl
itself (inf s) h = refl
itself (fin s m e) h = absurd h

cbrt-finite-requires : tie.Need-cbrt_finite-requires
cbrt-finite-requires c κs = answered c.before.is_finite.ensures c.if-is_finite.true

returns-2 : tie.Need-returns-else-is_finite
returns-2 c =
    itself c.before.before.args.x (denied c.before.is_finite.ensures c.if-is_finite.false)

pub cbrt_spec : {M : Type 1} → statement M
cbrt_spec =
    tie.close (tie.spec (λ c _. search rules) cbrt-finite-requires (λ c. search rules) returns-2)

-- `fma` meets its contract: what is left beside `fma_finite` are the definition's clauses for
-- infinities and NaNs. Assumes nothing.
use mathlib.Core.Path.{◌≡◌, refl}
use mathlib.Core.Bool.{not, ◌&&◌}
use lib.Dec.{T}
use lib.Ieee.{Float, nan, inf, fin, binary64, add, mul}
use lib.Ieee.Scale.{finite}
use Rattle.ieee754.specs.Fma.{fma}
use Rattle.ieee754_parts.proofs.Tests.{answered, denied}
use Rattle.ieee754.proofs.Tests.{not-both-left, not-both-right}
use Rattle.ieee754.proofs.fma.fma.Goals as goal
use Rattle.ieee754.proofs.fma.fma.Goals.{then-is_finite+else-is_finite-2, else-is_finite}

-- an addend that is not finite
addend : (x y z : Float) → T (finite x) → T (finite y) → T (not (finite z)) → z ≡ fma x y z
unfolding fma
addend nan y z a b c = absurd a
addend (inf s) y z a b c = absurd a
addend (fin s m e) nan z a b c = absurd b
addend (fin s m e) (inf t) z a b c = absurd b
addend (fin s m e) (fin t n d) nan a b c = refl
addend (fin s m e) (fin t n d) (inf u) a b c = refl
addend (fin s m e) (fin t n d) (fin u k g) a b c = absurd c

-- a factor that is not finite
factor : (x y z : Float)
    → T (not (finite x && finite y))
    → add binary64 (mul binary64 x y) z ≡ fma x y z
unfolding fma mul add
factor nan y z a = refl
factor (inf s) y z a = refl
factor (fin s m e) nan z a = refl
factor (fin s m e) (inf t) z a = refl
factor (fin s m e) (fin t n d) z a = absurd a

pub returns-then-is_finite-2 : goal.returns-then-is_finite-2
returns-then-is_finite-2 c =
    addend c.args.x c.args.y c.args.z
    (answered c.is_finite.ensures c.if-is_finite.true)
    (answered c.is_finite-then-is_finite.ensures c.if-is_finite-2.true)
    (denied c.is_finite-then-is_finite-2.ensures c.if-is_finite-3.false)

pub returns : goal.returns
returns c =
    factor c.args.x c.args.y c.args.z
    (elim c.if-is_finite.branch [
      | then-is_finite+else-is_finite-2 w ↦
          not-both-right (finite c.args.x) (finite c.args.y)
          (denied w.is_finite-then-is_finite.ensures w.if-is_finite-2.false)
      | else-is_finite w ↦
          not-both-left (finite c.args.x) (finite c.args.y)
          (denied c.is_finite.ensures w.if-is_finite.false)
    ])

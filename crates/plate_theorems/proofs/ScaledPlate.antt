-- A plate multiplied by 2 ^ k is solved as the scaling rule says, as specs/ScaledPlate.antt states
-- it: its points are exactly 2 ^ k times the old ones, and doubles. Assumes nothing.
use mathlib.Core.Path.{refl, ap, ◌∙◌, subst⁻¹}
use lib.IntN.{ℤ}
use lib.Dec.{T}
use lib.Ieee.{Float, nan, inf, fin}
use lib.Ieee.Scale.{finite}
use Rattle.scaleb.specs.Scalable.{scalable}
use Rattle.scaleb.proofs.TimesLaws.{scale-fits}
use Rattle.linalg.specs.Doubles.{Doubles}
use Rattle.linalg.specs.declared.vector3.Vector3.{Vector3}
use Rattle.frames.specs.declared.world.World.{World}
use Rattle.lambdatwist.specs.declared.solve.Answer.{Answer}
use Rattle.lambdatwist.specs.Solve.{solve}
use Rattle.plates.specs.declared.outcome.Outcome.{Outcome}
use Rattle.plates.specs.Outcome.{done}
use Rattle.plates.specs.TimesPower.{point_scalable, world_scalable, scaled_point, scaled_world}
use Rattle.plates.specs.TimesPower.{times_power}
use Rattle.plates.specs.SolvePlate.{solve_plate}
use Rattle.plates.proofs.PowerLaws.{coordinates-scalable, points-scalable, not-refused}
use Rattle.plates.proofs.AsSolve.{plate-solves, points-solve}
use Rattle.theorems.specs.ScalingRule.{TimesVector, TimesWorld, DoubleWorld, Alike}
use Rattle.theorems.specs.ScalingRule.{ScalingRuleOf, ScalingRule}
use Rattle.theorems.proofs.TimesPower.{times-scale}
use Rattle.theorems.proofs.ScalingRule.{scaling-rule}
use Rattle.plate_theorems.specs.ScaledPlate.{ScaledPlate}

scalable-finite : (k : ℤ) (x : Float) → T (scalable k x) → T (finite x)
unfolding scalable
scalable-finite k nan h = h
scalable-finite k (inf s) h = h
scalable-finite k (fin s m e) h = tt

module _ (k : ℤ) where
  -- ---- a point
  point-doubles : (p : Vector3) → T (point_scalable k p) → Doubles p → Doubles (scaled_point k p)
  unfolding scaled_point
  point-doubles p h d =
      let each = coordinates-scalable k p h in
      record {
        x = scale-fits k p.x d.x each.0;
        y = scale-fits k p.y d.y each.1;
        z = scale-fits k p.z d.z each.2;
      }

  point-times : (p : Vector3) → T (point_scalable k p) → TimesVector k p (scaled_point k p)
  unfolding scaled_point
  point-times p h =
      let each = coordinates-scalable k p h in
      record {
        x = times-scale k p.x (scalable-finite k p.x each.0);
        y = times-scale k p.y (scalable-finite k p.y each.1);
        z = times-scale k p.z (scalable-finite k p.z each.2);
      }

  -- ---- three
  world-doubles : (w : World)
      → T (world_scalable k w)
      → DoubleWorld w
      → DoubleWorld (scaled_world k w)
  unfolding scaled_world
  world-doubles w h d =
      let each = points-scalable k w h in
      record {
        p0 = point-doubles w.p0 each.0 d.p0;
        p1 = point-doubles w.p1 each.1 d.p1;
        p2 = point-doubles w.p2 each.2 d.p2;
      }

  world-times : (w : World) → T (world_scalable k w) → TimesWorld k w (scaled_world k w)
  unfolding scaled_world
  world-times w h =
      let each = points-scalable k w h in
      record {
        p0 = point-times w.p0 each.0;
        p1 = point-times w.p1 each.1;
        p2 = point-times w.p2 each.2;
      }

pub scaled-plate : ScaledPlate
unfolding ScaledPlate done ScalingRule ScalingRuleOf
scaled-plate plate k bearings doubles consistent accepted regular regular' =
    let world = plate.world in
    let so = not-refused plate k accepted in
    let scaled = ap (λ (o : Outcome). (solve_plate o.plate bearings).value) so.1 in
    subst⁻¹ (λ (a : Answer). Alike k a (solve_plate (times_power plate k).plate bearings).value)
    (plate-solves plate bearings consistent)
    (subst⁻¹ (Alike k (solve world bearings).value)
    (scaled ∙ points-solve (scaled_world k world) bearings)
    (scaling-rule k world (scaled_world k world) bearings bearings doubles
    (world-doubles k world so.0 doubles) (world-times k world so.0) refl regular regular'))

-- What is true of the coordinates of a world that can be multiplied by 2^k, and that of a plate
-- whose multiplication is not refused it can be. Assumes nothing.
use mathlib.Core.Path.{◌≡◌, refl}
use mathlib.Core.Bool.{not}
use native.Mathlib.Omega.{arith}
use lib.IntN.{ℤ}
use lib.Dec.{T}
use mir.Facts.{T_not-not}
use Rattle.ieee754.proofs.Tests.{three, either_way}
use Rattle.scaleb.specs.Scalable.{in_reach, scalable}
use Rattle.plates.specs.Outcome.{done}
use Rattle.plates.specs.TimesPower.{point_scalable, world_scalable, scaled_world, times_power}
use Rattle.plates.specs.Types.{Vector3, World, Plate, Outcome}

pub coordinates-scalable : (k : ℤ) (p : Vector3)
    → T (point_scalable k p)
    → T (scalable k p.x) × T (scalable k p.y) × T (scalable k p.z)
unfolding point_scalable
coordinates-scalable k p h = three (scalable k p.x) (scalable k p.y) (scalable k p.z) h

pub points-scalable : (k : ℤ) (world : World)
    → T (world_scalable k world)
    → T (point_scalable k world.p0) × T (point_scalable k world.p1)
    × T (point_scalable k world.p2)
unfolding world_scalable
points-scalable k world h =
    three (point_scalable k world.p0) (point_scalable k world.p1)
    (point_scalable k world.p2) h

pub ruleset scalables = (coordinates-scalable, points-scalable)

pub not-refused : (plate : Plate) (k : ℤ)
    → (times_power plate k).refusal ≡ 0
    → T (world_scalable k plate.world)
    × (times_power plate k ≡ done (scaled_world k plate.world))
unfolding times_power
not-refused plate k =
    let world = plate.world in
    let Scaled : Outcome → Type 0
    = λ o. o.refusal ≡ 0 → T (world_scalable k world) × (o ≡ done (scaled_world k world)) in
    either_way Scaled (not (in_reach k))
    (λ _ e. absurd (omega (arith, e)))
    (λ _. either_way Scaled (not (world_scalable k world))
    (λ _ e. absurd (omega (arith, e)))
    (λ s _. (T_not-not (world_scalable k world) s, refl)))

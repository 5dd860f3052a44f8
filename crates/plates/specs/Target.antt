-- The targets of a plate, and what belongs to each. Where it is named by its number, that is 0, 1
-- or 2: the operations refuse other numbers first, which count as 2 here.
use Rattle.std.specs.Prelude.{◌≡◌, ℕ, ◌<◌, eqb, Float, Result, MatchResult, if◌then◌else◌}
use Rattle.frames.specs.Points.{points}
use Rattle.plates.specs.Types.{Vector3, World, Bearings, SquaredEdges}
use Rattle.plates.specs.Types.{Target, First, Second, Third, NoSuchTarget}

abbrev pub number_of_target : Target → ℕ
number_of_target First = 0
number_of_target Second = 1
number_of_target Third = 2

-- the target with this number, or an error where no target has it
abbrev pub NamesTarget : ℕ → Result Target NoSuchTarget → Type 0
NamesTarget number r =
    MatchResult r (λ which. number_of_target which ≡ number) (λ e. (e.0 ≡ number) × (2 < number))

unfoldable pub target : World → ℕ → Vector3
target world number =
    if eqb number 0 then world.p0 else if eqb number 1 then world.p1 else world.p2

-- the bearing to a target
unfoldable pub ray : Bearings → Target → Vector3
ray bearings First = bearings.f0
ray bearings Second = bearings.f1
ray bearings Third = bearings.f2

-- the squared edge opposite to a target, between the other two
unfoldable pub opposite : SquaredEdges → Target → Float
opposite edges First = edges.a12
opposite edges Second = edges.a02
opposite edges Third = edges.a01

-- the world with one target moved to a point
unfoldable pub with_target : World → ℕ → Vector3 → World
with_target world number point =
    let record { p0 = p0; p1 = p1; p2 = p2 } = world in
    if eqb number 0 then points point p1 p2
    else if eqb number 1 then points p0 point p2 else points p0 p1 point

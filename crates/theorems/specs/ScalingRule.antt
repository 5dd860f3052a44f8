-- Demand 3 of the mission, the scaling rule: a single claim about two whole answers of `solve`, as
-- an instance of what it says of any solve. Its proof is `scaling-rule` in the proofs.
use Rattle.std.specs.Prelude.{◌≡◌, ◌*◌, ℤ, T, Float}
use mathlib.Core.List.{Forall₂}
use Rattle.std.specs.Float.{nan, inf, fin}
use Rattle.std.specs.Float.Ieee.{up, down}
use Rattle.ieee754.specs.Traced.{Traced}
use Rattle.linalg.specs.Doubles.{Doubles}
use Rattle.lambdatwist.specs.Solve.{solve}
use Rattle.theorems.specs.Types.{Vector3, Pose, World, Bearings, Answer}

-- x and x' are finite, and x' is exactly 2 ^ k times x, a zero keeping its sign. `fin s m e` is
-- ±m * 2 ^ e, and 2 ^ e is the fraction up e / down e of whole numbers, also for a negative e.
abbrev pub Times : ℤ → Float → Float → Type 0
Times k (fin s m e) (fin t n d) =
    (s ≡ t) × (n * up d * (down e * down k) ≡ m * up e * (down d * up k))
Times k (fin s m e) (inf t) = ⊥
Times k (fin s m e) nan = ⊥
Times k (inf s) y = ⊥
Times k nan y = ⊥

pub record TimesVector (k : ℤ) (v v' : Vector3) : Type 0 where
  pub x : Times k v.x v'.x
  pub y : Times k v.y v'.y
  pub z : Times k v.z v'.z

pub record TimesWorld (k : ℤ) (w w' : World) : Type 0 where
  pub p0 : TimesVector k w.p0 w'.p0
  pub p1 : TimesVector k w.p1 w'.p1
  pub p2 : TimesVector k w.p2 w'.p2

-- the numbers are doubles
pub record DoubleWorld (w : World) : Type 0 where
  pub p0 : Doubles w.p0
  pub p1 : Doubles w.p1
  pub p2 : Doubles w.p2

-- in one place: the same nine rotation entries, and each translation entry times 2 ^ k
pub record AlikePose (k : ℤ) (p p' : Pose) : Type 0 where
  pub rotation : p.rotation ≡ p'.rotation
  pub translation : TimesVector k p.translation p'.translation

-- the same refusal number or none, the same count of poses, and in each place poses that are alike,
-- the same update count and the same mark. The library's `Forall₂ R` says of two lists that they
-- are of one length and that R holds of their entries in each place.
pub record Alike (k : ℤ) (a a' : Answer) : Type 0 where
  pub refusal : a.refusal ≡ a'.refusal
  pub count : a.count ≡ a'.count
  pub poses : Forall₂ (AlikePose k) a.poses a'.poses
  pub updates : a.updates ≡ a'.updates
  pub lifted : a.lifted ≡ a'.lifted

-- The rule of any solve of points and bearings, with what it calls alike: for every whole number k,
-- and where every operation that either solve reaches and that can round meets the premise.
unfoldable pub ScalingRuleOf : {A : Type 0}
    → (ℤ → A → A → Type 0)
    → (World → Bearings → Traced A)
    → Type 0
ScalingRuleOf alike solver = (k : ℤ) (world world' : World) (bearings bearings' : Bearings)
    → DoubleWorld world
    → DoubleWorld world'
    → TimesWorld k world world'
    → bearings ≡ bearings'
    → T (solver world bearings).regular
    → T (solver world' bearings').regular
    → alike k (solver world bearings).value (solver world' bearings').value

-- demand 3
unfoldable pub ScalingRule : Type 0
ScalingRule = ScalingRuleOf Alike solve

-- The scaling rule holds: demand 3 of the mission, as specs/ScalingRule.antt states it. Assumes
-- nothing.
use mathlib.Core.Path.{subst}
use mathlib.Core.List.{List, Forall₂}
use Prim.Native.Nat.{suc}
use lib.IntN.{ℤ, pos}
use lib.Dec.{T}
use Rattle.ieee754.specs.Traced.{Traced}
use Rattle.ieee754.specs.Scaling.{Both}
use Rattle.linalg.specs.Vectors.{all_finite}
use Rattle.linalg.specs.Doubles.{Doubles}
use Rattle.linalg.specs.VectorScaling.{AtVector}
use Rattle.linalg.proofs.Finite.{entries-finite}
use Rattle.frames.specs.FrameScaling.{AtWorld, AtPose}
use Rattle.theorems.specs.ScalingRule as rule
use Rattle.theorems.specs.ScalingRule.{ScalingRuleOf, ScalingRule}
use Rattle.lambdatwist.specs.Solve.{solve}
use Rattle.theorems.specs.Types.{Vector3, Pose, World, Bearings, Answer}
use Rattle.theorems.proofs.TimesPower.{times-at, at-times}
use Rattle.lambdatwist.proofs.SolveScaling.{AtAnswer, solve-scales}
use Rattle.theorems.proofs.FiniteTranslation.{FiniteTranslations, solve-finite}

module _ (k : ℤ) where
  -- ---- from the statement's hypotheses to the calculus of degrees
  vector-at : {v v' : Vector3}
      → Doubles v
      → Doubles v'
      → rule.TimesVector k v v'
      → AtVector k (pos 1) v v'
  vector-at {v} {v'} d d' h = record {
    x = times-at k v.x v'.x d.x d'.x h.x;
    y = times-at k v.y v'.y d.y d'.y h.y;
    z = times-at k v.z v'.z d.z d'.z h.z;
  }

  world-at : {w w' : World}
      → rule.DoubleWorld w
      → rule.DoubleWorld w'
      → rule.TimesWorld k w w'
      → AtWorld k w w'
  world-at d d' h = record {
    p0 = vector-at d.p0 d'.p0 h.p0;
    p1 = vector-at d.p1 d'.p1 h.p1;
    p2 = vector-at d.p2 d'.p2 h.p2;
  }

  -- ---- and back: a finite entry at degree 1 is 2 ^ k times the first run's
  pub vector-times : {v v' : Vector3}
      → T (all_finite v)
      → AtVector k (pos 1) v v'
      → rule.TimesVector k v v'
  vector-times {v} {v'} f h =
      let entries = entries-finite v f in
      record {
        x = at-times k v.x v'.x entries.0 h.x;
        y = at-times k v.y v'.y entries.1 h.y;
        z = at-times k v.z v'.z entries.2 h.z;
      }

  poses-alike : {ps ps' : List Pose}
      → FiniteTranslations ps
      → Forall₂ (AtPose k) ps ps'
      → Forall₂ (rule.AlikePose k) ps ps'
  poses-alike f Forall₂.nil = Forall₂.nil
  poses-alike f (Forall₂.cons h hs) =
      Forall₂.cons
      (record { rotation = h.rotation; translation = vector-times (f 0) h.translation })
      (poses-alike (λ i. f (suc i)) hs)

  pub answer-alike : {a a' : Answer}
      → FiniteTranslations a.poses
      → AtAnswer k a a'
      → rule.Alike k a a'
  answer-alike f h = record {
    refusal = h.refusal;
    count = h.count;
    poses = poses-alike f h.poses;
    updates = h.updates;
    lifted = h.lifted;
  }

-- ---- a solve whose answers scale by the calculus of degrees, and of whose answers that is as much
--      as to be alike, meets the rule
pub rule-of : {A : Type 0} (At Alike : ℤ → A → A → Type 0) (solver : World → Bearings → Traced A)
    → ((k : ℤ) (w w' : World) (f : Bearings)
    → AtWorld k w w'
    → Both (At k) (solver w f) (solver w' f))
    → ((k : ℤ) (w : World) (f : Bearings) (a' : A)
    → At k (solver w f).value a'
    → Alike k (solver w f).value a')
    → ScalingRuleOf Alike solver
unfolding ScalingRuleOf
rule-of At Alike solver scales alike k world world' bearings bearings' d d' times same r r' =
    subst (λ (seen : Bearings).
    T (solver world' seen).regular →
    Alike k (solver world bearings).value (solver world' seen).value)
    same
    (λ (s : T (solver world' bearings).regular).
    alike k world bearings _
    ((scales k world world' bearings (world-at k d d' times)).results r s))
    r'

pub scaling-rule : ScalingRule
unfolding ScalingRule
scaling-rule =
    rule-of AtAnswer rule.Alike solve (λ _ _ _ bearings. solve-scales bearings)
    (λ k world bearings _. answer-alike k (solve-finite world bearings))

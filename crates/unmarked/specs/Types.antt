-- What the stages of the solve answer with, without marks: elsewhere these are structs and enums of
-- src/ in polynomial, eigen, depths, p3p_common and lambdatwist. The others are those crates' own.
use Rattle.std.specs.Prelude.{ℕ, List, Float}
pub use Rattle.linalg.specs.declared.matrix3.Matrix3.{Matrix3}
pub use Rattle.linalg.specs.declared.vector3.Vector3.{Vector3}
pub use Rattle.frames.specs.declared.pose.Pose.{Pose}
pub use Rattle.frames.specs.declared.bearings.Bearings.{Bearings}
pub use Rattle.frames.specs.declared.world.World.{World}
pub use Rattle.frames.specs.declared.squared_edges.SquaredEdges.{SquaredEdges}
pub use Rattle.refinement.specs.declared.refine_depths.Refined.{Refined}
pub use Rattle.p3p_common.specs.declared.gate.Gated.{Gated}
pub use Rattle.p3p_common.specs.declared.gate.Gated.TheVariants.{Passed, Projected, Dropped}
pub use Rattle.p3p_common.specs.declared.input.P3pInput.{P3pInput}
pub use Rattle.orderings.specs.declared.angles.Factors.{Factors}
pub use Rattle.orderings.specs.declared.cubic.Coefficients.{Coefficients}
pub use Rattle.orderings.specs.declared.measured.Measured.{Measured}

-- a quadratic's root that counts twice is two roots
pub data Roots : Type 0 where
  Two : Float → Float → Roots
  One : Float → Roots
  Refused : ℕ → Roots

pub data Eigenvalues : Type 0 where
  Pair : Float → Float → Eigenvalues
  NoPair : Eigenvalues

pub data Eigensystem : Type 0 where
  Found : Matrix3 → Vector3 → Eigensystem
  NotFound : Eigensystem

pub record Candidates : Type 0 where
  pub count : ℕ
  pub depths : List Vector3

pub record Solutions : Type 0 where
  pub count : ℕ
  pub poses : List Pose
  pub updates : List ℕ

pub record Answer : Type 0 where
  pub refusal : ℕ
  pub count : ℕ
  pub poses : List Pose
  pub updates : List ℕ

-- Every definition that the basis, the gates and the slots are computed with, opened at once: under
-- `unfolding evaluated` they compute on concrete numbers. Assumes nothing.
use Rattle.frames.proofs.Evaluated.{evaluated as frames-evaluated}
use Rattle.p3p_common.specs.Input.{input_finite}
use Rattle.p3p_common.specs.WorldBasisInverse.{dual_basis, is_singular, world_basis_inverse}
use Rattle.p3p_common.specs.RotationFromEdges.{rotation_from_edges}
use Rattle.p3p_common.specs.NearOrthonormal.{has_near_orthonormal_columns}
use Rattle.p3p_common.specs.ProjectToRotation.{project_to_rotation}
use Rattle.p3p_common.specs.RayFits.{ray_fits}
use Rattle.p3p_common.specs.ProjectedPose.{observation_fits, projected_pose_fits_minimal_sample}
use Rattle.p3p_common.specs.Gate.{if_valid, keep_point0, projected_gate, gate}
use Rattle.p3p_common.specs.Slots.{empty, push}
use Rattle.p3p_common.specs.PushPose.{push_gated, push_pose}

unfoldable pub evaluated : Unit {0}
unfolding frames-evaluated input_finite dual_basis is_singular world_basis_inverse
    rotation_from_edges has_near_orthonormal_columns project_to_rotation ray_fits observation_fits
    projected_pose_fits_minimal_sample if_valid keep_point0 projected_gate gate empty push push_gated
    push_pose
evaluated = tt

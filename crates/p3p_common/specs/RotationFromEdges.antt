-- rotation_from_edges of pose/p3p/common.rs: the matrix of two camera edges and their cross
-- product, times the inverse of the world's.
use Rattle.ieee754.specs.Traced.{Traced, ◌>>=◌}
use Rattle.linalg.specs.Vectors.{cross}
use Rattle.linalg.specs.Matrices.{from_columns, mat_mul}
use Rattle.p3p_common.specs.Types.{Vector3, Matrix3}

unfoldable pub rotation_from_edges : Vector3 → Vector3 → Matrix3 → Traced Matrix3
rotation_from_edges first_camera_edge second_camera_edge world_basis_inverse = do
  normal ← cross first_camera_edge second_camera_edge
  mat_mul (from_columns first_camera_edge second_camera_edge normal) world_basis_inverse

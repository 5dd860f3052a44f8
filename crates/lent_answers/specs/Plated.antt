-- A plate in lent memory, in the layout of include/p3p.h: nine doubles of points, the three squared
-- edges (01, 02, 12), nine of the inverse by columns; and a number that says whether there is an
-- inverse. What these hold after an operation: the new plate, or what they held before where it is
-- refused (document 01, "Questions, in order").
use Rattle.std.specs.Prelude.{ℕ, not, List, [], ◌∷◌, eqb, Float, get_or, if◌then◌else◌}
use Rattle.std.specs.Float.{nan}
use Rattle.linalg.specs.Matrices.{from_columns}
use Rattle.frames.specs.Lent.{vector_at, world_at}
use Rattle.lent_answers.specs.Solved.{flag}
use Rattle.lent_answers.specs.Types.{Plate, Outcome}

-- any number but 0 says that there is an inverse
unfoldable pub plate_in : List Float → ℕ → Plate
plate_in xs has_inverse = record {
  world = world_at xs 0;
  edges = record { a01 = get_or xs 9 nan; a02 = get_or xs 10 nan; a12 = get_or xs 11 nan };
  invertible = not (eqb has_inverse 0);
  inverse = from_columns (vector_at xs 12) (vector_at xs 15) (vector_at xs 18);
}

unfoldable pub plate_entries : Plate → List Float
plate_entries plate =
    let record { p0 = p0; p1 = p1; p2 = p2 } = plate.world in
    let edges = plate.edges in
    let inverse = plate.inverse in
    p0.x ∷ p0.y ∷ p0.z ∷ p1.x ∷ p1.y ∷ p1.z ∷ p2.x ∷ p2.y ∷ p2.z
    ∷ edges.a01 ∷ edges.a02 ∷ edges.a12
    ∷ inverse.m00 ∷ inverse.m10 ∷ inverse.m20
    ∷ inverse.m01 ∷ inverse.m11 ∷ inverse.m21
    ∷ inverse.m02 ∷ inverse.m12 ∷ inverse.m22 ∷ []

unfoldable pub plate_after : Outcome → List Float → List Float
plate_after outcome held =
    if eqb outcome.refusal 0 then plate_entries outcome.plate else held

unfoldable pub inverse_after : Outcome → ℕ → ℕ
inverse_after outcome held =
    if eqb outcome.refusal 0 then flag outcome.plate.invertible else held

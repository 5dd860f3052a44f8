-- What stands at a position of a list of bytes: numbers, doubles, vectors and a frame, all
-- big-endian. From document 01, "Frame records and their listing".
use Rattle.std.specs.Prelude.{ℕ, ◌+◌, ◌*◌, ◌^◌, List, [], ◌∷◌, length, take, drop, Float}
use Rattle.std.specs.Float.{binary64}
use Rattle.std.specs.Float.Ieee.{of_bits}
use Rattle.frames.specs.Points.{points, rays}
use Rattle.records.specs.Types.{Vector3, Frame}

-- n bytes from a position on
abbrev pub part : List ℕ → ℕ → ℕ → List ℕ
part s at n = take n (drop at s)

-- the number that bytes stand for, the most significant first
unfoldable pub big_endian : List ℕ → ℕ
big_endian [] = 0
big_endian (b ∷ bs) = b * 256 ^ length bs + big_endian bs

-- the double whose eight bytes begin at a position; every pattern of a NaN is read as the one NaN
unfoldable pub double_at : List ℕ → ℕ → Float
double_at s at = of_bits binary64 (big_endian (part s at 8))

-- the vector at place k, from 0, of those that begin at a position: x, y, z
unfoldable pub vector_at : List ℕ → ℕ → ℕ → Vector3
vector_at s at k = record {
  x = double_at s (at + 24 * k);
  y = double_at s (at + 24 * k + 8);
  z = double_at s (at + 24 * k + 16);
}

-- three world points, three bearings, checking target, checking bearing
unfoldable pub frame_at : List ℕ → ℕ → Frame
frame_at s at = record {
  world = points (vector_at s at 0) (vector_at s at 1) (vector_at s at 2);
  bearings = rays (vector_at s at 3) (vector_at s at 4) (vector_at s at 5);
  target = vector_at s at 6;
  bearing = vector_at s at 7;
}

-- A frame's record as bytes, the inverse of reading. From document 01, "Frame records and their
-- listing".
use Rattle.std.specs.Prelude.{ℕ, zero, suc, ◌/◌, ◌%◌, ◌^◌, List, [], ◌∷◌, ◌++◌, Float}
use Rattle.std.specs.Float.{binary64}
use Rattle.std.specs.Float.Ieee.{to_bits}
use Rattle.linalg.specs.Doubles.{Doubles}
use Rattle.records.specs.Types.{Vector3, Frame}

-- the last k bytes of a number, the most significant first
unfoldable pub bytes : ℕ → ℕ → List ℕ
bytes zero n = []
bytes (suc k) n = n / 256 ^ k % 256 ∷ bytes k n

-- the bit pattern; that of a NaN is 7ff8000000000000
abbrev pub double_bytes : Float → List ℕ
double_bytes x = bytes 8 (to_bits binary64 x)

unfoldable pub vector_bytes : Vector3 → List ℕ
vector_bytes v = double_bytes v.x ++ double_bytes v.y ++ double_bytes v.z

unfoldable pub vectors_bytes : List Vector3 → List ℕ
vectors_bytes [] = []
vectors_bytes (v ∷ vs) = vector_bytes v ++ vectors_bytes vs

-- three world points, three bearings, checking target, checking bearing
abbrev pub vectors : Frame → List Vector3
vectors f =
    f.world.p0 ∷ f.world.p1 ∷ f.world.p2
    ∷ f.bearings.f0 ∷ f.bearings.f1 ∷ f.bearings.f2
    ∷ f.target ∷ f.bearing ∷ []

-- the length, the version, the doubles
unfoldable pub record_bytes : Frame → List ℕ
record_bytes f = bytes 2 193 ++ bytes 1 1 ++ vectors_bytes (vectors f)

-- every entry is a double
abbrev pub AllDoubles : List Vector3 → Type 0
AllDoubles [] = Unit {0}
AllDoubles (v ∷ vs) = Doubles v × AllDoubles vs

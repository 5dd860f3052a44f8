-- Text as bytes.
use Rattle.std.specs.Prelude.{ℕ, List, [], ◌∷◌}
use Prim.Native.Char.{code}
use Prim.Native.String.{String, [] as []ₛ, ◌∷◌ as ◌∷ₛ◌}

-- the bytes of an ASCII text
abbrev pub ascii : String → List ℕ
ascii []ₛ = []
ascii (c ∷ₛ cs) = code c ∷ ascii cs

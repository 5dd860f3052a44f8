-- The literals of the quadratic in polynomial.rs, each by its bit pattern.
use Rattle.std.specs.Prelude.{Float}
use Rattle.ieee754.specs.Literal.{double}

abbrev pub four : Float
four = double 0x4010_0000_0000_0000

abbrev pub thirty_two : Float
thirty_two = double 0x4040_0000_0000_0000

-- Rust's f64::copysign, IEEE 754's copySign: the magnitude of x with the sign of y. From
-- document 01, module 1. A NaN has no sign here, so where y is one the sign is plus.
use Rattle.std.specs.Prelude.{Bool, false, Float}
use Rattle.std.specs.Float.{nan, inf, fin}

-- whether the sign is set, of a zero too
abbrev pub negative : Float → Bool
negative nan = false
negative (inf s) = s
negative (fin s m e) = s

unfoldable pub copysign : Float → Float → Float
copysign nan y = nan
copysign (inf s) y = inf (negative y)
copysign (fin s m e) y = fin (negative y) m e

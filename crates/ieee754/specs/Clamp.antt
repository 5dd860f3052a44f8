-- Rust's f64::clamp: two comparisons, so a NaN and a zero's sign are kept. From document 01,
-- "Rounding and sums".
use Rattle.std.specs.Prelude.{cond, Float}
use Rattle.std.specs.Float.Ieee.{lt}

abbrev pub raised : Float → Float → Float
raised x low = cond (lt x low) low x

unfoldable pub clamp : Float → Float → Float → Float
clamp x low high = cond (lt high (raised x low)) high (raised x low)

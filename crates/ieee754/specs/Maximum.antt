-- Rust's f64::max. A NaN beside a number is skipped, and of two zeros of opposite sign the result
-- is plus zero, where Rust leaves it open. From document 01, "Rounding and sums".
use Rattle.std.specs.Prelude.{cond, Float}
use Rattle.std.specs.Float.Ieee.{is_nan, lt}
use Rattle.ieee754.specs.CopySign.{negative}

unfoldable pub max : Float → Float → Float
max x y =
    cond (is_nan x) y (cond (is_nan y) x (cond (lt x y) y (cond (lt y x) x (cond (negative x) y x))))

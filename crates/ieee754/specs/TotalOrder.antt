-- IEEE 754's totalOrder on numbers, with NaN above every number, and Rust's f64::total_cmp by it.
-- From document 01, "What the reference is".
use Rattle.std.specs.Prelude.{Bool, not, ◌&&◌, ◌||◌, cond, Float}
use Rattle.std.specs.Float.Ieee.{is_nan, lt, eq}
use Rattle.ieee754.specs.CopySign.{negative}
use Rattle.ieee754.specs.Types.{Ordering, Less, Equal, Greater}

-- x is at or below y: it is less, or it is equal and is not plus zero where y is minus zero
unfoldable pub total_order : Float → Float → Bool
total_order x y = is_nan y || (lt x y || (eq x y && (negative x || not (negative y))))

unfoldable pub total_cmp : Float → Float → Ordering
total_cmp x y = cond (total_order x y) (cond (total_order y x) Equal Less) Greater

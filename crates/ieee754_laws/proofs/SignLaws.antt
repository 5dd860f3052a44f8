-- The copied sign: the result has the magnitude of one (`copysign-abs`) and the sign of the other
-- (`copysign-negative`). The magnitude has no sign (`abs-negative`) and is its own (`abs-abs`).
-- Assumes nothing.
use mathlib.Core.Path.{◌≡◌, refl}
use mathlib.Core.Bool.{false, true≢false}
use lib.Ieee.{Float, nan, inf, fin, is_nan}
use Rattle.ieee754.specs.Magnitude.{abs}
use Rattle.ieee754.specs.CopySign.{negative, copysign}

pub copysign-abs : (x y : Float) → abs (copysign x y) ≡ abs x
unfolding abs copysign
copysign-abs nan y = refl
copysign-abs (inf s) y = refl
copysign-abs (fin s m e) y = refl

-- a NaN has no sign
pub copysign-negative : (x y : Float) → is_nan x ≡ false → negative (copysign x y) ≡ negative y
unfolding copysign is_nan
copysign-negative nan y h = absurd (true≢false h)
copysign-negative (inf s) y h = refl
copysign-negative (fin s m e) y h = refl

pub abs-negative : (x : Float) → negative (abs x) ≡ false
unfolding abs
abs-negative nan = refl
abs-negative (inf s) = refl
abs-negative (fin s m e) = refl

pub abs-abs : (x : Float) → abs (abs x) ≡ abs x
unfolding abs
abs-abs nan = refl
abs-abs (inf s) = refl
abs-abs (fin s m e) = refl

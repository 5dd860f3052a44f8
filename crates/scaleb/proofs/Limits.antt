-- The limits, computed: of k, and of 2 ^ k times the doubles that bit patterns give. Assumes
-- nothing.
use mathlib.Core.Path.{◌≡◌, refl}
use mathlib.Core.Bool.{true, false}
use lib.IntN.{ℤ, pos, negsuc}
use lib.Ieee.{fin, binary64, round, mul, of_bits}
use Rattle.ieee754.specs.Literal.{double, min_positive}
use Rattle.ieee754.specs.Scaling.{scale}
use Rattle.scaleb.specs.Scalable.{in_reach, scalable}

-- ---- k: -64 and -65, 64 and 65
pub reach-low : (in_reach (negsuc 63) ≡ true) × (in_reach (negsuc 64) ≡ false)
unfolding in_reach
reach-low = (refl, refl)

pub reach-high : (in_reach (pos 64) ≡ true) × (in_reach (pos 65) ≡ false)
unfolding in_reach
reach-high = (refl, refl)

-- ---- below 2 ^ 1024

-- the largest double, once and twice
pub largest :
    let x = double 0x7fef_ffff_ffff_ffff in
    (scalable (pos 0) x ≡ true) × (scalable (pos 1) x ≡ false)
unfolding scalable of_bits
largest = (refl, refl)

-- twice the double before 2 ^ 1023, and twice 2 ^ 1023
pub twice :
    (scalable (pos 1) (double 0x7fdf_ffff_ffff_ffff) ≡ true)
    × (scalable (pos 1) (double 0x7fe0_0000_0000_0000) ≡ false)
unfolding scalable of_bits
twice = (refl, refl)

-- ---- from 2 ^ -1022 up

-- 2 ^ -1022, and the double before it, the largest subnormal one
pub least-normal :
    (scalable (pos 0) min_positive ≡ true)
    × (scalable (pos 0) (double 0x000f_ffff_ffff_ffff) ≡ false)
unfolding scalable of_bits
least-normal = (refl, refl)

-- half of 2 ^ -1021, and half of the double before it, 2 ^ -1021 - 2 ^ -1074
pub halves :
    (scalable (negsuc 0) (double 0x0020_0000_0000_0000) ≡ true)
    × (scalable (negsuc 0) (double 0x001f_ffff_ffff_ffff) ≡ false)
unfolding scalable of_bits
halves = (refl, refl)

-- though the second, 2 ^ -1022 - 2 ^ -1075, is rounded up to 2 ^ -1022
pub half-rounded :
    mul binary64 (double 0x001f_ffff_ffff_ffff) (fin false 1 (negsuc 0)) ≡ min_positive
unfolding mul round of_bits
half-rounded = refl

-- 2 ^ 52 and 2 ^ 51 times the smallest double, 2 ^ -1074
pub smallest : (scalable (pos 52) (double 1) ≡ true) × (scalable (pos 51) (double 1) ≡ false)
unfolding scalable of_bits
smallest = (refl, refl)

-- 2 ^ -64 times 2 ^ -958, and times the double before it
pub lowest-factor :
    (scalable (negsuc 63) (double 0x0410_0000_0000_0000) ≡ true)
    × (scalable (negsuc 63) (double 0x040f_ffff_ffff_ffff) ≡ false)
unfolding scalable of_bits
lowest-factor = (refl, refl)

-- ---- at every k: minus zero is taken, and stays; infinity and NaN are not
pub minus-zero : (k : ℤ)
    → let x = double 0x8000_0000_0000_0000 in (scalable k x ≡ true) × (scale k x ≡ x)
unfolding scalable scale of_bits
minus-zero k = (refl, refl)

pub not_finite : (k : ℤ)
    → (scalable k (double 0x7ff0_0000_0000_0000) ≡ false)
    × (scalable k (double 0x7ff8_0000_0000_0000) ≡ false)
unfolding scalable of_bits
not_finite k = (refl, refl)

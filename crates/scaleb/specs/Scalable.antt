-- Where 2 ^ k times a double is taken: for k from -64 to 64, and where the exact result is zero or
-- in the normal range. That result is `scale k x` (crate `ieee754`, specs/Scaling). Definitions
-- only. Assumes nothing.
use Rattle.std.specs.Prelude.{◌*◌, ◌^◌, Bool, false, ◌&&◌, ◌||◌, leb, ltb, eqb, ℤ, pos, negsuc, ◌+ℤ◌, Float}
use Rattle.std.specs.Int.Signed.{le_z}
use Rattle.std.specs.Float.{nan, inf, fin}
use Rattle.std.specs.Float.Ieee.{up, down}

-- k is from -64 to 64
unfoldable pub in_reach : ℤ → Bool
in_reach k = le_z (negsuc 63) k && le_z k (pos 64)

-- x is finite, and the exact value of 2 ^ k times it is zero, or of a magnitude from 2 ^ -1022 up
-- and below 2 ^ 1024
unfoldable pub scalable : ℤ → Float → Bool
scalable k nan = false
scalable k (inf s) = false
scalable k (fin s m e) =
    let e' = e +ℤ k in
    eqb m 0
    || (leb (down e') (m * up e' * 2 ^ 1022) && ltb (m * up e') (2 ^ 1024 * down e'))

-- The number nearest to a cube root, by the leading digits of cubes. Assumes nothing.
use Prim.Native.Nat.{ℕ, ◌+◌, ◌-◌, ◌*◌, ◌^◌, ◌≤◌, ◌<◌}
use mathlib.Core.Path.{◌≡◌, sym, ap, ◌∙◌}
use native.Mathlib.Nat.{lt_of_lt_of_le, lt_of_le_of_lt, le_of_eq, pow-suc, div-lt_iff_lt-mul}
use native.Mathlib.Nat.{le-div_iff_mul-le}
use native.Mathlib.Omega.{arith}
use lib.Dec.{lit<, lit≤}
use Rattle.ieee754_roots.specs.Nearest.{IsNearest, cube_top}
use Rattle.ieee754_roots.proofs.Squares.{square}

cube : (x : ℕ) → x ^ 3 ≡ x * x * x
cube x = pow-suc x 2 ∙ ap (λ (y : ℕ). y * x) (square x)

-- an odd cube is no multiple of 2 ^ 107
odd-cube : (n q : ℕ)
    → n * 2 ^ 107 ≤ (2 * q + 1) * (2 * q + 1) * (2 * q + 1)
    → 2 ^ 3 * (n * 2 ^ 104) < (2 * q + 1) * (2 * q + 1) * (2 * q + 1)
odd-cube n q h = omega arith

under : (n x : ℕ) → x * x * x < n * 2 ^ 107 → x * x * x < 2 ^ 3 * (n * 2 ^ 104)
under n x h = omega arith

pub nearest-cube : (n q : ℕ)
    → cube_top (2 * q - 1) < n
    → n ≤ cube_top (2 * q + 1)
    → IsNearest 3 (n * 2 ^ 104) q
unfolding cube_top
nearest-cube n q l h = record {
  above =
      lt_of_le_of_lt (le_of_eq (cube (2 * q - 1)))
      (under n (2 * q - 1) ((div-lt_iff_lt-mul (lit< tt)).0 l));
  below =
      lt_of_lt_of_le (odd-cube n q ((le-div_iff_mul-le (lit< tt)).0 h))
      (le_of_eq (sym (cube (2 * q + 1))));
}

-- the root of a number of the right size has 53 digits
pub least : cube_top 0x1f_ffff_ffff_ffff < 2 ^ 52
unfolding cube_top
least = lit< tt

pub greatest : 2 ^ 55 ≤ cube_top 0x40_0000_0000_0001
unfolding cube_top
greatest = lit≤ tt

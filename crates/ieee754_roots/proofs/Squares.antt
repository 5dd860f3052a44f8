-- The number nearest to a square root, by squares of whole numbers. Assumes nothing.
use Prim.Native.Nat.{ℕ, zero, suc, ◌+◌, ◌-◌, ◌*◌, ◌^◌, ◌≤◌, ◌<◌}
use mathlib.Core.Path.{◌≡◌, ap, ◌∙◌}
use native.Mathlib.Nat.{pow-suc, pow-zero, one-mul}
use native.Mathlib.Omega.{arith}
use Rattle.ieee754_roots.specs.Nearest.{IsNearest}

pub square : (x : ℕ) → x ^ 2 ≡ x * x
square x =
    pow-suc x 1
    ∙ ap (λ (y : ℕ). y * x) (pow-suc x 0 ∙ ap (λ (y : ℕ). y * x) (pow-zero x) ∙ one-mul x)

pub nearest-square : (n q : ℕ) → q * q < n + q → n ≤ q * q + q → IsNearest 2 n q
nearest-square n zero a b = omega arith
nearest-square n (suc q) a b =
    let odd : 2 * suc q - 1 ≡ 2 * q + 1 = omega arith in
    record {
      above =
          rw (
            odd,
            square (2 * q + 1),
          ) (omega arith);
      below = rw (square (2 * suc q + 1)) (omega arith);
    }

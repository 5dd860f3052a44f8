-- The fused multiply-add over one denominator. The definition's fractions are over others; a sum of
-- the same values over 2 ^ 2166 is its result (`fma-value`). Assumes nothing.
use mathlib.Core.Path.{◌≡◌, sym, ap, ap₂, ◌∙◌}
use Prim.Native.Nat.{ℕ, ◌*◌, ◌^◌}
use native.Mathlib.Nat.{mul_assoc, mul_comm, mul_left_comm, mul-pos}
use mathlib.Core.Bool.{Bool}
use lib.Ieee.{Float, nan, inf, fin, binary64, up, down, unlike, sum}
use lib.Ieee.Exact.{HasValue}
use lib.Ieee.Fits.{down_pos}
use lib.Pow.{pow_pos}
use Rattle.ieee754.specs.Fma.{fma}
use Rattle.ieee754_parts.specs.Rounded.{summed}
use Rattle.ieee754_parts.proofs.Sums.{sum_same}

-- ---- from the definition's denominators to the one denominator: X / Dx is a / L, and so on, for L
-- the units of the smallest value
cross_product : (X Y a b Dx Dy Dz L W : ℕ)
    → X * L ≡ a * Dx
    → Y * L ≡ b * Dy
    → X * Y * Dz * (L * L * W) ≡ a * b * W * (Dx * Dy * Dz)
cross_product X Y a b Dx Dy Dz L W x y =
    let before : X * Y * Dz * (L * L * W) ≡ X * L * (Y * L) * (Dz * W) =
    simp (mul_assoc, mul_left_comm) in
    let after : a * Dx * (b * Dy) * (Dz * W) ≡ a * b * W * (Dx * Dy * Dz) =
    simp (mul_assoc, mul_comm, mul_left_comm) in
    before ∙ ap₂ (λ (u v : ℕ). u * v * (Dz * W)) x y ∙ after

cross-addend : (Z c Dx Dy Dz L W : ℕ)
    → Z * L ≡ c * Dz
    → Z * (Dx * Dy) * (L * W) ≡ c * W * (Dx * Dy * Dz)
cross-addend Z c Dx Dy Dz L W z =
    let before : Z * (Dx * Dy) * (L * W) ≡ Z * L * (Dx * Dy * W) =
    simp (mul_assoc, mul_left_comm) in
    let after : c * Dz * (Dx * Dy * W) ≡ c * W * (Dx * Dy * Dz) =
    simp (mul_assoc, mul_comm, mul_left_comm) in
    before ∙ ap (λ (u : ℕ). u * (Dx * Dy * W)) z ∙ after

same : (x y z : Float) (s t u : Bool) (a b c : ℕ)
    → HasValue x s a (2 ^ 1074)
    → HasValue y t b (2 ^ 1074)
    → HasValue z u c (2 ^ 1074)
    → summed (unlike s t) (a * b * 2 ^ 18) u (c * 2 ^ 1092) ≡ fma x y z
unfolding fma summed
same nan y z s t u a b c p q r = absurd p
same (inf _) y z s t u a b c p q r = absurd p
same (fin _ _ _) nan z s t u a b c p q r = absurd q
same (fin _ _ _) (inf _) z s t u a b c p q r = absurd q
same (fin _ _ _) (fin _ _ _) nan s t u a b c p q r = absurd r
same (fin _ _ _) (fin _ _ _) (inf _) s t u a b c p q r = absurd r
same (fin s' m e) (fin t' n d) (fin u' k g) s t u a b c p q r =
    let X = m * up e in
    let Y = n * up d in
    let Z = k * up g in
    let D = down e * down d * down g in
    sym
    ((λ i.
    sum binary64 (unlike (p.0 i) (q.0 i)) (X * Y * down g) (r.0 i) (Z * (down e * down d)) D)
    ∙ sum_same binary64 (unlike s t) (X * Y * down g) u (Z * (down e * down d)) D (a * b * 2 ^ 18)
    (c * 2 ^ 1092) (2 ^ 2166) (mul-pos (mul-pos (down_pos e) (down_pos d)) (down_pos g))
    (pow_pos 2166)
    (cross_product X Y a b (down e) (down d) (down g) (2 ^ 1074) (2 ^ 18) p.1 q.1)
    (cross-addend Z c (down e) (down d) (down g) (2 ^ 1074) (2 ^ 1092) r.1))

-- r is such a sum, with q for the product
pub fma-value : (r : Float) (x y z : Float) (s t u : Bool) (q a b c : ℕ)
    → HasValue x s a (2 ^ 1074)
    → HasValue y t b (2 ^ 1074)
    → HasValue z u c (2 ^ 1074)
    → q ≡ a * b * 2 ^ 18
    → r ≡ summed (unlike s t) q u (c * 2 ^ 1092)
    → r ≡ fma x y z
fma-value r x y z s t u q a b c i j k h is =
    is ∙ ap (λ (n : ℕ). summed (unlike s t) n u (c * 2 ^ 1092)) h ∙ same x y z s t u a b c i j k

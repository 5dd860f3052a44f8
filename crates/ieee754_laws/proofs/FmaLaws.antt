-- The fused multiply-add beside the sum and the product: with the factor 1 it is `add` (`fma-one`),
-- with the addend minus zero, which changes no sum's sign, it is `mul` (`fma-minus-zero`), and so
-- it is with plus zero where the exact product is not zero (`fma-plus-zero`). Assumes nothing.
use mathlib.Core.Path.{◌≡◌, refl, sym, ap, ap₂, ◌∙◌}
use mathlib.Core.Logic.{◌⊎◌, inl, inr}
use Prim.Native.Nat.{ℕ, zero, suc, ◌-◌, ◌*◌, ◌<◌, zero-le}
use native.Mathlib.Nat.{add-zero, sub-zero, mul-one, zero-mul, mul-pos, zero-lt-suc}
use mathlib.Core.Bool.{Bool, true, false, cond, true≢false, false≢true}
use lib.IntN.{ℤ, pos}
use lib.Dec.{ltb, eqb}
use lib.Ieee.{Float, nan, inf, fin, binary64, up, down, unlike, round, sum, level, add, mul, eq}
use lib.Ieee.{of_bits}
use lib.Ieee.Fits.{up_pos, down_pos}
use borrow.Author.Tests.{lt-ltb, le-ltb}
use Rattle.ieee754.specs.Literal.{double}
use Rattle.ieee754.specs.Fma.{fma}
use Rattle.ieee754.proofs.Tests.{cond_either}

like : (s : Bool) → unlike s false ≡ s
like true = refl
like false = refl

-- 1.0
pub fma-one : (x z : Float) → fma x (double 0x3ff0_0000_0000_0000) z ≡ add binary64 x z
unfolding fma add mul of_bits
fma-one nan z = refl
fma-one (inf true) z = refl
fma-one (inf false) z = refl
fma-one (fin s m e) nan = refl
fma-one (fin s m e) (inf u) = refl
fma-one (fin s m e) (fin u k g) =
    ap (λ (b : Bool).
    sum binary64 b (m * up e * 1 * down g) u (k * up g * (down e * 1)) (down e * 1 * down g))
    (like s)
    ∙ (simp mul-one)

-- ---- with a zero of the sign u as the addend, and an exact product ±a / c: the sum has the
-- product's sign where u is minus or a is not zero
sum-zero : (s : Bool) (a : ℕ) (u : Bool) (c : ℕ)
    → (u ≡ true) ⊎ (0 < a)
    → sum binary64 s a u 0 c ≡ round binary64 s a c
unfolding sum
sum-zero true a true c k = ap (λ (x : ℕ). round binary64 true x c) (add-zero a)
sum-zero false a false c k = ap (λ (x : ℕ). round binary64 false x c) (add-zero a)
sum-zero false a true c k =
    ap (λ (b : Bool). cond b (round binary64 true (0 - a) c) (round binary64 false (a - 0) c))
    (le-ltb a 0 zero-le)
    ∙ ap (λ (x : ℕ). round binary64 false x c) (sub-zero a)
sum-zero true a false c k =
    ap (λ (b : Bool). cond b (round binary64 false (0 - a) c) (round binary64 (ltb 0 a) (a - 0) c))
    (le-ltb a 0 zero-le)
    ∙ ap₂ (λ (b : Bool) (x : ℕ). round binary64 b x c) (positive k) (sub-zero a)
  where
    positive : (false ≡ true) ⊎ (0 < a) → ltb 0 a ≡ true
    positive (inl h) = absurd (false≢true h)
    positive (inr h) = lt-ltb 0 a h

product-zero : (s : Bool) (a : ℕ) (u : Bool) (c : ℕ)
    → 0 < c
    → (u ≡ true) ⊎ (0 < a)
    → sum binary64 s (a * 1) u (0 * c) (c * 1) ≡ round binary64 s a c
product-zero s a u c C k =
    ap₂ (λ (x y : ℕ). sum binary64 s x u y (c * 1)) (mul-one a) (zero-mul c)
    ∙ ap (λ (x : ℕ). sum binary64 s a u 0 x) (mul-one c)
    ∙ sum-zero s a u c k

-- an infinite product, or none
special-zero : (b s u : Bool)
    → add binary64 (cond b nan (inf s)) (fin u 0 (pos 0)) ≡ cond b nan (inf s)
unfolding add
special-zero b s u = cond_either (λ (p : Float). add binary64 p (fin u 0 (pos 0)) ≡ p) b refl refl

-- -0.0
pub fma-minus-zero : (x y : Float) → fma x y (double 0x8000_0000_0000_0000) ≡ mul binary64 x y
unfolding fma add mul of_bits
fma-minus-zero nan y = refl
fma-minus-zero (inf s) nan = refl
fma-minus-zero (inf s) (inf t) = refl
fma-minus-zero (inf s) (fin t n d) = special-zero (eqb n 0) (unlike s t) true
fma-minus-zero (fin s m e) nan = refl
fma-minus-zero (fin s m e) (inf t) = special-zero (eqb m 0) (unlike s t) true
fma-minus-zero (fin s m e) (fin t n d) =
    product-zero (unlike s t) (m * up e * (n * up d)) true (down e * down d)
    (mul-pos (down_pos e) (down_pos d)) (inl refl)

-- a zero of either sign equals 0.0
zero-equal : (s : Bool) (e : ℤ) → eq (fin s zero e) (double 0) ≡ true
unfolding eq of_bits
zero-equal s e =
    ap₂ (λ (a b : ℕ). level s a false b)
    (ap (λ (a : ℕ). a * 1) (zero-mul (up e))) (zero-mul (down e))
    ∙ go s
  where
    go : (s : Bool) → level s 0 false 0 ≡ true
    go true = refl
    go false = refl

-- 0.0
pub fma-plus-zero : (x y : Float)
    → eq x (double 0) ≡ false
    → eq y (double 0) ≡ false
    → fma x y (double 0) ≡ mul binary64 x y
unfolding fma add mul of_bits
fma-plus-zero nan y p q = refl
fma-plus-zero (inf s) nan p q = refl
fma-plus-zero (inf s) (inf t) p q = refl
fma-plus-zero (inf s) (fin t n d) p q = special-zero (eqb n 0) (unlike s t) false
fma-plus-zero (fin s m e) nan p q = refl
fma-plus-zero (fin s m e) (inf t) p q = special-zero (eqb m 0) (unlike s t) false
fma-plus-zero (fin s zero e) (fin t n d) p q = absurd (true≢false (sym (zero-equal s e) ∙ p))
fma-plus-zero (fin s (suc m) e) (fin t zero d) p q = absurd (true≢false (sym (zero-equal t d) ∙ q))
fma-plus-zero (fin s (suc m) e) (fin t (suc n) d) p q =
    product-zero (unlike s t) (suc m * up e * (suc n * up d)) false (down e * down d)
    (mul-pos (down_pos e) (down_pos d))
    (inr (mul-pos (mul-pos (zero-lt-suc m) (up_pos e)) (mul-pos (zero-lt-suc n) (up_pos d))))

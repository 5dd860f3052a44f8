-- Where it is taken, 2 ^ k times a double is a double (`scale-fits`), and so the product of the two
-- is not rounded (`mul_power`). Assumes nothing.
use Prim.Native.Nat.{ℕ, zero, suc, ◌*◌, ◌%◌, ◌^◌, ◌≤◌, ◌<◌}
use mathlib.Core.Path.{◌≡◌, refl, ap, ◌∙◌}
use mathlib.Core.Bool.{Bool, true, false, ◌&&◌}
use native.Mathlib.Nat.{le_of_eq, lt_of_le_of_lt, mul-pos, mul-one}
use native.Mathlib.Omega.{arith}
use lib.Dec.{T, leb, ltb, eqb, leb→le, le→leb, lt→ltb, ltb→lt, eqb-suc-zero}
use borrow.Author.Tests.{eq-eqb}
use denote.Floats.{passes}
use lib.IntN.{ℤ, pos, negsuc, ◌+ℤ◌}
use lib.Pow.{pow_pos, pow_mono, shl_lt}
use lib.Ieee.{Float, nan, inf, fin, binary64, up, down, unlike, round, mul, fits}
use lib.Ieee.Fits.{down_pos, and_i, and_l, and_r}
use lib.Ieee.Scale.{round_same}
use Rattle.ieee754_parts.proofs.Sizes.{exponent_lt}
use Rattle.ieee754.specs.Scaling.{moved, scale}
use Rattle.ieee754.proofs.Unique.{Parts, fits-parts, round-own}
use Rattle.ieee754_laws.proofs.Powers.{moved-ratio}
use Rattle.scaleb.specs.Scalable.{scalable}

-- ---- it is a double
record Within (m : ℕ) (e : ℤ) : Type 0 where
  least : down e ≤ m * up e * 2 ^ 1022
  most : m * up e < 2 ^ 1024 * down e

within : (k : ℤ) (s : Bool) (m : ℕ) (e : ℤ)
    → T (scalable k (fin s (suc m) e))
    → Within (suc m) (e +ℤ k)
unfolding scalable
within k s m e h =
    let A = suc m * up (e +ℤ k) in
    let D = down (e +ℤ k) in
    let l = leb D (A * 2 ^ 1022) in
    let g = ltb A (2 ^ 1024 * D) in
    let both : T (l && g) = rw (eqb-suc-zero m) at h in
    record {
      least = leb→le D (A * 2 ^ 1022) (and_l l g both);
      most = ltb→lt A (2 ^ 1024 * D) (and_r l g both);
    }

-- a number of 53 digits that is 2 ^ -1022 at least has none below 2 ^ -1074
lowest : (m : ℕ) (e : ℤ) → m < 2 ^ 53 → down e ≤ m * up e * 2 ^ 1022 → down e ≤ 2 ^ 1074
lowest m (pos j) short least = pow_pos 1074
lowest m (negsuc j) short least =
    let under : 2 ^ suc j < 2 ^ 1075 =
    lt_of_le_of_lt least
    (lt_of_le_of_lt (le_of_eq (ap (λ (z : ℕ). z * 2 ^ 1022) (mul-one m))) (shl_lt 53 1022 short)) in
    let within : suc j < 1075 = exponent_lt (suc j) 1075 (le_of_eq refl) under in
    pow_mono {j = 1074} (omega (arith, within))

parts-fit : (s : Bool) (m : ℕ) (e : ℤ) → Parts (suc m) e → T (fits binary64 (fin s (suc m) e))
unfolding fits
parts-fit s m e p =
    let a : Bool = eqb (suc m % 2) 1 in
    let b : Bool = ltb (suc m) (2 ^ 53) in
    let c : Bool = leb (down e) (2 ^ 1074) in
    let d : Bool = ltb (suc m * up e) (2 ^ 1024 * down e) in
    and_i (a && b && c) d
    (and_i (a && b) c
    (and_i a b (passes a (eq-eqb (suc m % 2) 1 p.odd)) (lt→ltb (suc m) (2 ^ 53) p.short))
    (le→leb (down e) (2 ^ 1074) p.lowest))
    (lt→ltb (suc m * up e) (2 ^ 1024 * down e) p.highest)

pub scale-fits : (k : ℤ) (x : Float)
    → T (fits binary64 x)
    → T (scalable k x)
    → T (fits binary64 (scale k x))
unfolding scale
scale-fits k nan f h = f
scale-fits k (inf s) f h = f
scale-fits k (fin s zero e) f h = f
scale-fits k (fin s (suc m) e) f h =
    let p = fits-parts s m e f in
    let w = within k s m e h in
    parts-fit s m (e +ℤ k) (record {
      odd = p.odd;
      short = p.short;
      lowest = lowest (suc m) (e +ℤ k) p.short w.least;
      highest = w.most;
    })

-- ---- the product with 2 ^ k
unlike-positive : (s : Bool) → unlike s false ≡ s
unlike-positive true = refl
unlike-positive false = refl

product : (k : ℤ) (s : Bool) (m : ℕ) (e : ℤ)
    → mul binary64 (fin s m e) (fin false 1 k)
    ≡ round binary64 s (m * up (moved k m e)) (down (moved k m e))
unfolding mul
product k s m e =
    let e' = moved k m e in
    ap (λ (t : Bool). round binary64 t (m * up e * (1 * up k)) (down e * down k))
    (unlike-positive s)
    ∙ round_same binary64 s (m * up e * (1 * up k)) (down e * down k) (m * up e') (down e')
    (mul-pos (down_pos e) (down_pos k)) (down_pos e')
    (cross (m * up e) (up k) (down e') (m * up e' * (down e * down k)) (moved-ratio k m e).cross)
  where
    cross : (a u d b : ℕ) → b ≡ a * (d * u) → a * (1 * u) * d ≡ b
    cross a u d b h = omega (arith, h)

pub mul_power : (k : ℤ) (x : Float)
    → T (fits binary64 x)
    → T (scalable k x)
    → mul binary64 x (fin false 1 k) ≡ scale k x
unfolding scalable scale
mul_power k nan f h = absurd h
mul_power k (inf s) f h = absurd h
mul_power k (fin s m e) f h =
    product k s m e ∙ round-own s m (moved k m e) (scale-fits k (fin s m e) f h)

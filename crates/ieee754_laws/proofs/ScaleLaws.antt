-- How the operations on binary64 go with `scale`: of operands 2 ^ t and 2 ^ u times as large the
-- product is 2 ^ (t + u) times as large, and so on, where both operations are regular. Each law of
-- an operation that rounds is `round-scale` at the operation's fraction, or `round_root-scale` at a
-- root's. What does not round asks for nothing. Assumes nothing.
use mathlib.Core.Path.{◌≡◌, refl, ap, ap₂, ◌∙◌}
use Prim.Native.Nat.{ℕ, zero, suc, ◌+◌, ◌-◌, ◌*◌, ◌<◌}
use native.Mathlib.Nat.{zero-lt-suc, mul-pos}
use mathlib.Core.Bool.{Bool, true, false, not, cond, ◌&&◌, ◌||◌, beq}
use lib.IntN.{ℤ, pos, ◌+ℤ◌, ◌-ℤ◌, ◌*ℤ◌}
use lib.Dec.{T, ltb, eqb, eqb-suc-zero}
use lib.Ieee.{Float, nan, inf, fin, binary64, up, down, unlike, round, sum, neg, add, sub, mul, div}
use lib.Ieee.{lt, eq, le, ne, is_nan}
use lib.Ieee.Fits.{up_pos}
use lib.Ieee.Scale.{finite}
use Rattle.ieee754.specs.Magnitude.{abs}
use Rattle.ieee754.specs.CopySign.{negative, copysign}
use Rattle.ieee754.specs.Maximum.{max}
use Rattle.ieee754.specs.Clamp.{raised, clamp}
use Rattle.ieee754.specs.TotalOrder.{total_order, total_cmp}
use Rattle.ieee754.specs.Root.{round_root, sqrt, cbrt}
use Rattle.ieee754.specs.Fma.{fma}
use Rattle.ieee754.specs.Traced.{in_range, magnitude, add_regular, mul_regular, div_regular, fma_regular}
use Rattle.ieee754.specs.Traced.{sqrt_regular, cbrt_regular}
use Rattle.ieee754.specs.Scaling.{scale, moved}
use Rattle.ieee754.proofs.Tests.{cond_either}
use Rattle.ieee754_laws.proofs.Powers.{Ratio, moved-ratio, ratio-mul, ratio-div, ratio-left}
use Rattle.ieee754_laws.proofs.Powers.{ratio-right, ratio-add, ratio-sub, ratio-lt}
use Rattle.ieee754_laws.proofs.Powers.{ratio-below, ratio-level}
use Rattle.ieee754_laws.proofs.RoundScale.{round-scale, round_root-scale}

-- ---- the sign
pub neg-scale : (t : ℤ) (x : Float) → neg (scale t x) ≡ scale t (neg x)
unfolding scale neg
neg-scale t nan = refl
neg-scale t (inf s) = refl
neg-scale t (fin s m e) = refl

pub abs-scale : (t : ℤ) (x : Float) → abs (scale t x) ≡ scale t (abs x)
unfolding scale abs
abs-scale t nan = refl
abs-scale t (inf s) = refl
abs-scale t (fin s m e) = refl

pub negative-scale : (t : ℤ) (x : Float) → negative (scale t x) ≡ negative x
unfolding scale
negative-scale t nan = refl
negative-scale t (inf s) = refl
negative-scale t (fin s m e) = refl

-- the sign's factor is of no account
pub copysign-scale : (t u : ℤ) (x y : Float)
    → copysign (scale t x) (scale u y) ≡ scale t (copysign x y)
unfolding scale copysign
copysign-scale t u nan y = refl
copysign-scale t u (inf s) y = ap inf (negative-scale u y)
copysign-scale t u (fin s m e) y = ap (λ (b : Bool). fin b m (moved t m e)) (negative-scale u y)

-- ---- a choice between two values
pick : (t : ℤ) (b : Bool) (x y : Float) {x' y' : Float}
    → x' ≡ scale t x
    → y' ≡ scale t y
    → cond b x' y' ≡ scale t (cond b x y)
pick t true x y p q = p
pick t false x y p q = q

-- ---- products and quotients. A NaN or an infinity is 2 ^ t times itself.
nan-scale : (t : ℤ) → nan ≡ scale t nan
unfolding scale
nan-scale t = refl

inf-scale : (t : ℤ) (s : Bool) → inf s ≡ scale t (inf s)
unfolding scale
inf-scale t s = refl

pub mul-scale : (t u : ℤ) (x y : Float)
    → T (mul_regular x y)
    → T (mul_regular (scale t x) (scale u y))
    → mul binary64 (scale t x) (scale u y) ≡ scale (t +ℤ u) (mul binary64 x y)
unfolding scale mul mul_regular
mul-scale t u nan y r r' = refl
mul-scale t u (inf s) nan r r' = refl
mul-scale t u (inf s) (inf s') r r' = refl
mul-scale t u (inf s) (fin s' n d) r r' =
    pick (t +ℤ u) (eqb n 0) nan (inf (unlike s s')) (nan-scale (t +ℤ u))
    (inf-scale (t +ℤ u) (unlike s s'))
mul-scale t u (fin s m e) nan r r' = refl
mul-scale t u (fin s m e) (inf s') r r' =
    pick (t +ℤ u) (eqb m 0) nan (inf (unlike s s')) (nan-scale (t +ℤ u))
    (inf-scale (t +ℤ u) (unlike s s'))
mul-scale t u (fin s m e) (fin s' n d) r r' =
    round-scale (unlike s s') (ratio-mul (moved-ratio t m e) (moved-ratio u n d)) r r'

pub div-scale : (t u : ℤ) (x y : Float)
    → T (div_regular x y)
    → T (div_regular (scale t x) (scale u y))
    → div binary64 (scale t x) (scale u y) ≡ scale (t -ℤ u) (div binary64 x y)
unfolding scale div div_regular
div-scale t u nan y r r' = refl
div-scale t u (inf s) nan r r' = refl
div-scale t u (inf s) (inf s') r r' = refl
div-scale t u (inf s) (fin s' n d) r r' = refl
div-scale t u (fin s m e) nan r r' = refl
div-scale t u (fin s m e) (inf s') r r' = refl
div-scale t u (fin s m e) (fin s' zero d) r r' = absurd r
div-scale t u (fin s m e) (fin s' (suc n) d) r r' =
    rw (eqb-suc-zero n)
    (round-scale (unlike s s') (ratio-div (mul-pos (zero-lt-suc n) (up_pos d))
    (mul-pos (zero-lt-suc n) (up_pos (d +ℤ u))) (moved-ratio t m e) (moved-ratio u (suc n) d))
    (rw (eqb-suc-zero n) at r) (rw (eqb-suc-zero n) at r'))

-- ---- sums: ±a / c + ±b / c
module _ (s s' : Bool) {t : ℤ} {a b c a' b' c' : ℕ} (p : Ratio t a c a' c')
    (q : Ratio t b c b' c') where
  unlike-scale : (x y : Bool)
      → T (in_range 1 (cond x (b - a) (a - b)) c)
      → T (in_range 1 (cond x (b' - a') (a' - b')) c')
      → cond x (round binary64 s' (b' - a') c') (round binary64 (s && y) (a' - b') c')
      ≡ scale t (cond x (round binary64 s' (b - a) c) (round binary64 (s && y) (a - b) c))
  unlike-scale true y = round-scale s' (ratio-sub q p)
  unlike-scale false y = round-scale (s && y) (ratio-sub p q)

  sum-scale : T (in_range 1 (magnitude s a s' b) c)
      → T (in_range 1 (magnitude s a' s' b') c')
      → sum binary64 s a' s' b' c' ≡ scale t (sum binary64 s a s' b c)
  unfolding sum
  sum-scale = signs (beq s s')
    where
      signs : (x : Bool)
          → T (in_range 1 (cond x (a + b) (cond (ltb a b) (b - a) (a - b))) c)
          → T (in_range 1 (cond x (a' + b') (cond (ltb a' b') (b' - a') (a' - b'))) c')
          → cond x (round binary64 s (a' + b') c') (cond (ltb a' b')
          (round binary64 s' (b' - a') c') (round binary64 (s && ltb b' a') (a' - b') c'))
          ≡ scale t (cond x (round binary64 s (a + b) c)
          (cond (ltb a b) (round binary64 s' (b - a) c) (round binary64 (s && ltb b a) (a - b) c)))
      signs true r r' = round-scale s (ratio-add p q) r r'
      signs false r r' =
          rw (
            ratio-lt p q,
            ratio-lt q p,
          ) (unlike-scale (ltb a b) (ltb b a) r (rw (ratio-lt p q) at r'))

pub add-scale : (t : ℤ) (x y : Float)
    → T (add_regular x y)
    → T (add_regular (scale t x) (scale t y))
    → add binary64 (scale t x) (scale t y) ≡ scale t (add binary64 x y)
unfolding scale add add_regular
add-scale t nan y r r' = refl
add-scale t (inf s) nan r r' = refl
add-scale t (inf s) (inf s') r r' = pick t (beq s s') (inf s) nan (inf-scale t s) (nan-scale t)
add-scale t (inf s) (fin s' n d) r r' = refl
add-scale t (fin s m e) nan r r' = refl
add-scale t (fin s m e) (inf s') r r' = refl
add-scale t (fin s m e) (fin s' n d) r r' =
    let p = moved-ratio t m e in
    let q = moved-ratio t n d in
    sum-scale s s' (ratio-left p q) (ratio-right p q) r r'

pub sub-scale : (t : ℤ) (x y : Float)
    → T (add_regular x (neg y))
    → T (add_regular (scale t x) (neg (scale t y)))
    → sub binary64 (scale t x) (scale t y) ≡ scale t (sub binary64 x y)
unfolding sub
sub-scale t x y r r' = rw (neg-scale t y) (add-scale t x (neg y) r (rw (neg-scale t y) at r'))

-- a product with an infinity, as a term of a sum
special-scale : (t : ℤ) (b s : Bool) (z : Float)
    → add binary64 (cond b nan (inf s)) (scale t z) ≡ scale t (add binary64 (cond b nan (inf s)) z)
unfolding scale add add_regular
special-scale t b s z =
    cond_either (λ (p : Float). add binary64 p (scale t z) ≡ scale t (add binary64 p z)) b refl
    (add-scale t (inf s) z tt tt)

pub fma-scale : (t u : ℤ) (x y z : Float)
    → T (fma_regular x y z)
    → T (fma_regular (scale t x) (scale u y) (scale (t +ℤ u) z))
    → fma (scale t x) (scale u y) (scale (t +ℤ u) z) ≡ scale (t +ℤ u) (fma x y z)
unfolding scale fma fma_regular mul add
fma-scale t u nan y z r r' = refl
fma-scale t u (inf s) nan z r r' = refl
fma-scale t u (inf s) (inf s') z r r' = special-scale (t +ℤ u) false (unlike s s') z
fma-scale t u (inf s) (fin s' n d) z r r' = special-scale (t +ℤ u) (eqb n 0) (unlike s s') z
fma-scale t u (fin s m e) nan z r r' = refl
fma-scale t u (fin s m e) (inf s') z r r' = special-scale (t +ℤ u) (eqb m 0) (unlike s s') z
fma-scale t u (fin s m e) (fin s' n d) nan r r' = refl
fma-scale t u (fin s m e) (fin s' n d) (inf s'') r r' = refl
fma-scale t u (fin s m e) (fin s' n d) (fin s'' l g) r r' =
    let p = ratio-mul (moved-ratio t m e) (moved-ratio u n d) in
    let q = moved-ratio (t +ℤ u) l g in
    sum-scale (unlike s s') s'' (ratio-left p q) (ratio-right p q) r r'

-- ---- roots
root-scale : (p : ℕ) (t : ℤ) (s : Bool) (m : ℕ) (e : ℤ)
    → 0 < p
    → let e' = moved (pos p *ℤ t) m e in
    T (in_range p (m * up e) (down e))
    → T (in_range p (m * up e') (down e'))
    → round_root p binary64 s (m * up e') (down e')
    ≡ scale t (round_root p binary64 s (m * up e) (down e))
root-scale p t s m e P = round_root-scale p P s t (moved-ratio (pos p *ℤ t) m e)

pub sqrt-scale : (t : ℤ) (x : Float)
    → T (sqrt_regular x)
    → T (sqrt_regular (scale (pos 2 *ℤ t) x))
    → sqrt (scale (pos 2 *ℤ t) x) ≡ scale t (sqrt x)
unfolding scale sqrt sqrt_regular
sqrt-scale t nan r r' = refl
sqrt-scale t (inf false) r r' = refl
sqrt-scale t (inf true) r r' = refl
sqrt-scale t (fin s zero e) r r' = refl
sqrt-scale t (fin true (suc m) e) r r' = refl
sqrt-scale t (fin false (suc m) e) r r' = root-scale 2 t false (suc m) e (zero-lt-suc 1) r r'

pub cbrt-scale : (t : ℤ) (x : Float)
    → T (cbrt_regular x)
    → T (cbrt_regular (scale (pos 3 *ℤ t) x))
    → cbrt (scale (pos 3 *ℤ t) x) ≡ scale t (cbrt x)
unfolding scale cbrt cbrt_regular
cbrt-scale t nan r r' = refl
cbrt-scale t (inf s) r r' = refl
cbrt-scale t (fin s zero e) r r' = refl
cbrt-scale t (fin s (suc m) e) r r' = root-scale 3 t s (suc m) e (zero-lt-suc 2) r r'

-- ---- comparisons at the same t. A zero is 2 ^ t times itself, so a comparison with one is the
-- same at any t.
pub lt-scale : (t : ℤ) (x y : Float) → lt (scale t x) (scale t y) ≡ lt x y
unfolding scale lt
lt-scale t nan y = refl
lt-scale t (inf s) nan = refl
lt-scale t (inf s) (inf s') = refl
lt-scale t (inf s) (fin s' n d) = refl
lt-scale t (fin s m e) nan = refl
lt-scale t (fin s m e) (inf s') = refl
lt-scale t (fin s m e) (fin s' n d) =
    let p = moved-ratio t m e in
    let q = moved-ratio t n d in
    ratio-below (ratio-left p q) (ratio-right p q) s s'

pub eq-scale : (t : ℤ) (x y : Float) → eq (scale t x) (scale t y) ≡ eq x y
unfolding scale eq
eq-scale t nan y = refl
eq-scale t (inf s) nan = refl
eq-scale t (inf s) (inf s') = refl
eq-scale t (inf s) (fin s' n d) = refl
eq-scale t (fin s m e) nan = refl
eq-scale t (fin s m e) (inf s') = refl
eq-scale t (fin s m e) (fin s' n d) =
    let p = moved-ratio t m e in
    let q = moved-ratio t n d in
    ratio-level (ratio-left p q) (ratio-right p q) s s'

pub le-scale : (t : ℤ) (x y : Float) → le (scale t x) (scale t y) ≡ le x y
unfolding le
le-scale t x y = ap₂ ◌||◌ (lt-scale t x y) (eq-scale t x y)

pub ne-scale : (t : ℤ) (x y : Float) → ne (scale t x) (scale t y) ≡ ne x y
unfolding ne
ne-scale t x y = ap not (eq-scale t x y)

pub is_nan-scale : (t : ℤ) (x : Float) → is_nan (scale t x) ≡ is_nan x
unfolding scale is_nan
is_nan-scale t nan = refl
is_nan-scale t (inf s) = refl
is_nan-scale t (fin s m e) = refl

pub finite-scale : (t : ℤ) (x : Float) → finite (scale t x) ≡ finite x
unfolding scale
finite-scale t nan = refl
finite-scale t (inf s) = refl
finite-scale t (fin s m e) = refl

pub total_order-scale : (t : ℤ) (x y : Float) → total_order (scale t x) (scale t y) ≡ total_order x y
unfolding total_order
total_order-scale t x y =
    rw (
      is_nan-scale t y,
      lt-scale t x y,
      eq-scale t x y,
      negative-scale t x,
      negative-scale t y,
    )

pub total_cmp-scale : (t : ℤ) (x y : Float) → total_cmp (scale t x) (scale t y) ≡ total_cmp x y
unfolding total_cmp
total_cmp-scale t x y = rw (total_order-scale t x y, total_order-scale t y x)

-- ---- what chooses by comparisons
pub max-scale : (t : ℤ) (x y : Float) → max (scale t x) (scale t y) ≡ scale t (max x y)
unfolding max
max-scale t x y =
    rw (
      is_nan-scale t x,
      is_nan-scale t y,
      lt-scale t x y,
      lt-scale t y x,
      negative-scale t x,
    )
    (pick t (is_nan x) y _ refl (pick t (is_nan y) x _ refl
    (pick t (lt x y) y _ refl (pick t (lt y x) x _ refl (pick t (negative x) y x refl refl)))))

raised-scale : (t : ℤ) (x low : Float) → raised (scale t x) (scale t low) ≡ scale t (raised x low)
raised-scale t x low = rw (lt-scale t x low) (pick t (lt x low) low x refl refl)

pub clamp-scale : (t : ℤ) (x low high : Float)
    → clamp (scale t x) (scale t low) (scale t high) ≡ scale t (clamp x low high)
unfolding clamp
clamp-scale t x low high =
    ap (λ (y : Float). cond (lt (scale t high) y) (scale t high) y) (raised-scale t x low)
    ∙ ap (λ (b : Bool). cond b (scale t high) (scale t (raised x low)))
    (lt-scale t high (raised x low))
    ∙ pick t (lt high (raised x low)) high (raised x low) refl refl

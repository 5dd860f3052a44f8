-- Every result of the single operations is a double: `sqrt-fits`, `cbrt-fits`, `fma-fits`,
-- `abs-fits`, `copysign-fits`, `max-fits`, `clamp-fits`. Where an argument can come back as it is,
-- it has to be one. Assumes nothing.
use mathlib.Core.Path.{sym, subst}
use Prim.Native.Nat.{ℕ, zero, suc, ◌+◌, ◌-◌, ◌*◌, ◌/◌, ◌^◌, ◌≤◌, ◌<◌, compare}
use native.Mathlib.Nat.{le_trans, le_of_eq, le_refl, lt_of_lt_of_le, lt_of_le_of_lt, zero-lt-suc}
use mathlib.Core.Bool.{Bool, true, false, cond, ◌&&◌, beq}
use lib.IntN.{ℤ}
use lib.Dec.{T, ltb, ltb→lt}
use lib.Pow.{pow-lt}
use lib.Ieee.{Float, nan, inf, fin, Format, binary64, prec, emax, low, up, down}
use lib.Ieee.{odd, units, round, sum, mul, lt, is_nan, fits}
use lib.Ieee.Fits.{down_pos, odd-fits, nearest-le, round-fits, cond-fits, nan-fits}
use lib.Ieee.Fits.{inf-fits, add-fits}
use Rattle.ieee754.specs.Magnitude.{abs}
use Rattle.ieee754.specs.CopySign.{negative, copysign}
use Rattle.ieee754.specs.Maximum.{max}
use Rattle.ieee754.specs.Clamp.{raised, clamp}
use Rattle.ieee754.specs.Root.{root, round_root, sqrt, cbrt}
use Rattle.ieee754.specs.Fma.{fma}
use Rattle.ieee754.proofs.PowerLaws.{pow-mul, base-lt}
use Rattle.ieee754.proofs.RootLaws.{dropped, dropped-drops, kept, root_is, quotient-lt}
use Rattle.ieee754.proofs.RootLaws.{round_root-is}

-- ---- roots
units-fits : (f : Format) (s : Bool) (q k : ℕ) → q ≤ 2 ^ prec f → T (fits f (units f s q k))
unfolding units
units-fits f s q k a =
    go (ltb (q * 2 ^ k) (2 ^ (low f + suc (emax f))))
    (ltb→lt (q * 2 ^ k) (2 ^ (low f + suc (emax f))))
  where
    go : (b : Bool)
        → (T b → q * 2 ^ k < 2 ^ (low f + suc (emax f)))
        → T (fits f (cond b (odd (suc (prec f)) s q k (low f)) (inf s)))
    go true h =
        odd-fits f (suc (prec f)) s q k (lt_of_le_of_lt a (pow-lt (le_refl (suc (prec f))))) a
        (h tt)
    go false h = inf-fits f s

pub round_root-fits : (p : ℕ) (f : Format) (s : Bool) (num den : ℕ)
    → 0 < p
    → 0 < den
    → T (fits f (round_root p f s num den))
round_root-fits p f s num den P D =
    let n = num * 2 ^ (p * low f) in
    let k = dropped p f n den in
    let u = den * 2 ^ (p * k) in
    let w = root p (prec f) (n / u) in
    let few : n / u < 2 ^ (p * prec f) =
    quotient-lt p f n den k D (dropped-drops p f n den P D).0 in
    let short : w < 2 ^ prec f =
    base-lt p w (2 ^ prec f) (lt_of_le_of_lt (root_is p (prec f) (n / u) P few).0
    (lt_of_lt_of_le few (le_of_eq (sym (pow-mul 2 (prec f) p))))) in
    subst (λ (x : Float). T (fits f x)) (sym (round_root-is p f s num den))
    (units-fits f s (kept p (prec f) n u) k
    (le_trans (nearest-le w (compare (2 ^ p * n) ((2 * w + 1) ^ p * u))) short))

pub sqrt-fits : (x : Float) → T (fits binary64 x) → T (fits binary64 (sqrt x))
unfolding sqrt
sqrt-fits nan t = nan-fits binary64
sqrt-fits (inf false) t = inf-fits binary64 false
sqrt-fits (inf true) t = nan-fits binary64
sqrt-fits (fin s zero e) t = t
sqrt-fits (fin true (suc m) e) t = nan-fits binary64
sqrt-fits (fin false (suc m) e) t =
    round_root-fits 2 binary64 false (suc m * up e) (down e) (zero-lt-suc 1) (down_pos e)

pub cbrt-fits : (x : Float) → T (fits binary64 x) → T (fits binary64 (cbrt x))
unfolding cbrt
cbrt-fits nan t = nan-fits binary64
cbrt-fits (inf s) t = inf-fits binary64 s
cbrt-fits (fin s zero e) t = t
cbrt-fits (fin s (suc m) e) t =
    round_root-fits 3 binary64 s (suc m * up e) (down e) (zero-lt-suc 2) (down_pos e)

-- ---- fused multiply-add
sum_fits : (f : Format) (s : Bool) (a : ℕ) (t : Bool) (b c : ℕ) → T (fits f (sum f s a t b c))
unfolding sum
sum_fits f s a t b c =
    cond-fits f (beq s t) (round f s (a + b) c)
    (cond (ltb a b) (round f t (b - a) c) (round f (s && ltb b a) (a - b) c))
    (round-fits f s (a + b) c)
    (cond-fits f (ltb a b) (round f t (b - a) c) (round f (s && ltb b a) (a - b) c)
    (round-fits f t (b - a) c) (round-fits f (s && ltb b a) (a - b) c))

pub fma-fits : (x y z : Float) → T (fits binary64 (fma x y z))
unfolding fma
fma-fits nan y z = nan-fits binary64
fma-fits (inf s) y z = add-fits binary64 (mul binary64 (inf s) y) z
fma-fits (fin s m e) nan z = nan-fits binary64
fma-fits (fin s m e) (inf t) z = add-fits binary64 (mul binary64 (fin s m e) (inf t)) z
fma-fits (fin s m e) (fin t n d) nan = nan-fits binary64
fma-fits (fin s m e) (fin t n d) (inf u) = inf-fits binary64 u
fma-fits (fin s m e) (fin t n d) (fin u k g) =
    sum_fits binary64 (lib.Ieee.unlike s t) (m * up e * (n * up d) * down g) u
    (k * up g * (down e * down d)) (down e * down d * down g)

-- ---- what rounds nothing
resigned : (f : Format) (s t : Bool) (m : ℕ) (e : ℤ)
    → T (fits f (fin s m e))
    → T (fits f (fin t m e))
unfolding fits
resigned f s t zero e h = h
resigned f s t (suc m) e h = h

pub abs-fits : (f : Format) (x : Float) → T (fits f x) → T (fits f (abs x))
unfolding abs
abs-fits f nan t = nan-fits f
abs-fits f (inf s) t = inf-fits f false
abs-fits f (fin s m e) t = resigned f s false m e t

pub copysign-fits : (f : Format) (x y : Float) → T (fits f x) → T (fits f (copysign x y))
unfolding copysign
copysign-fits f nan y t = nan-fits f
copysign-fits f (inf s) y t = inf-fits f (negative y)
copysign-fits f (fin s m e) y t = resigned f s (negative y) m e t

pub max-fits : (f : Format) (x y : Float) → T (fits f x) → T (fits f y) → T (fits f (max x y))
unfolding max
max-fits f x y X Y =
    cond-fits f (is_nan x) y _ Y (cond-fits f (is_nan y) x _ X
    (cond-fits f (lt x y) y _ Y (cond-fits f (lt y x) x _ X (cond-fits f (negative x) y x Y X))))

pub clamp-fits : (f : Format) (x low high : Float)
    → T (fits f x)
    → T (fits f low)
    → T (fits f high)
    → T (fits f (clamp x low high))
unfolding clamp
clamp-fits f x low high X L H =
    cond-fits f (lt high (raised x low)) high (raised x low) H (cond-fits f (lt x low) low x L X)

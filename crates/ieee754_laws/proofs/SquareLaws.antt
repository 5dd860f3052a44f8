-- The square of a difference does not depend on its order, for any two floats: `square-difference`.
-- So the squared edges of a triangle serve every ordering of its points. Assumes nothing.
use Prim.Native.Nat.{ℕ, zero, suc, ◌+◌, ◌-◌, ◌*◌, ◌^◌, ◌≤◌, ◌<◌}
use mathlib.Core.Path.{◌≡◌, refl, ap, ◌∙◌}
use mathlib.Core.Bool.{Bool, true, false, not, cond, ◌&&◌}
use native.Mathlib.Nat.{add_comm, mul_comm}
use native.Mathlib.Omega.{arith}
use lib.Dec.{ltb}
use lib.Ieee.{Float, nan, inf, fin, Format, prec, low, emax, up, down, unlike, odd, units, round}
use lib.Ieee.{sum, neg, add, sub, mul}
use lib.Ieee.Fits.{round_is}
use borrow.Author.Tests.{ltb-true, ltb-false}

abbrev square : Format → Float → Float
square f x = mul f x x

-- ---- a square sees no sign
same-signs : (s t : Bool) → unlike s s ≡ unlike t t
same-signs true true = refl
same-signs true false = refl
same-signs false true = refl
same-signs false false = refl

square-odd : (f : Format) (d : ℕ) (s t : Bool) (q k l : ℕ)
    → square f (odd d s q k l) ≡ square f (odd d t q k l)
unfolding odd mul
square-odd f d s t zero k l = rw (same-signs s t)
square-odd f d s t (suc q) k l = rw (same-signs s t)

square-inf : (f : Format) (s t : Bool) → square f (inf s) ≡ square f (inf t)
unfolding mul
square-inf f s t = ap inf (same-signs s t)

square-units : (f : Format) (s t : Bool) (q k : ℕ)
    → square f (units f s q k) ≡ square f (units f t q k)
unfolding units
square-units f s t q k = go (ltb (q * 2 ^ k) (2 ^ (low f + suc (emax f))))
  where
    go : (b : Bool)
        → square f (cond b (odd (suc (prec f)) s q k (low f)) (inf s))
        ≡ square f (cond b (odd (suc (prec f)) t q k (low f)) (inf t))
    go true = square-odd f (suc (prec f)) s t q k (low f)
    go false = square-inf f s t

square-round : (f : Format) (s t : Bool) (a c : ℕ)
    → square f (round f s a c) ≡ square f (round f t a c)
square-round f s t a c = rw (round_is f s a c, round_is f t a c) (square-units f s t _ _)

-- ---- ±a / c less ±b / c, either way round: of one sign the larger less the smaller, whichever is
--      asked first
one-sign : (f : Format) (s t : Bool) (a b c : ℕ)
    → square f (cond (ltb a b) (round f (not t) (b - a) c) (round f (s && ltb b a) (a - b) c))
    ≡ square f (cond (ltb b a) (round f (not s) (a - b) c) (round f (t && ltb a b) (b - a) c))
one-sign f s t a b c =
    go (ltb a b) (ltb b a) (ltb-true a b) (ltb-false a b) (ltb-true b a) (ltb-false b a)
  where
    go : (x y : Bool)
        → (x ≡ true → a < b)
        → (x ≡ false → b ≤ a)
        → (y ≡ true → b < a)
        → (y ≡ false → a ≤ b)
        → square f (cond x (round f (not t) (b - a) c) (round f (s && y) (a - b) c))
        ≡ square f (cond y (round f (not s) (a - b) c) (round f (t && x) (b - a) c))
    go true true p q r w = let l = p refl in let m = r refl in absurd (omega arith)
    go true false p q r w = square-round f (not t) (t && true) (b - a) c
    go false true p q r w = square-round f (s && true) (not s) (a - b) c
    go false false p q r w =
        let same : a - b ≡ b - a = (let l = q refl in let m = w refl in omega arith) in
        square-round f (s && false) (t && false) (a - b) c
        ∙ ap (λ (n : ℕ). square f (round f (t && false) n c)) same

square-sum : (f : Format) (s t : Bool) (a b c : ℕ)
    → square f (sum f s a (not t) b c) ≡ square f (sum f t b (not s) a c)
unfolding sum
square-sum f true true a b c = one-sign f true true a b c
square-sum f true false a b c =
    ap (λ (n : ℕ). square f (round f true n c)) (add_comm a b)
    ∙ square-round f true false (b + a) c
square-sum f false true a b c =
    ap (λ (n : ℕ). square f (round f false n c)) (add_comm a b)
    ∙ square-round f false true (b + a) c
square-sum f false false a b c = one-sign f false false a b c

pub square-difference : (f : Format) (x y : Float) → square f (sub f x y) ≡ square f (sub f y x)
unfolding sub add neg mul
square-difference f nan nan = refl
square-difference f nan (inf t) = refl
square-difference f nan (fin t n d) = refl
square-difference f (inf s) nan = refl
square-difference f (inf true) (inf true) = refl
square-difference f (inf true) (inf false) = refl
square-difference f (inf false) (inf true) = refl
square-difference f (inf false) (inf false) = refl
square-difference f (inf true) (fin t n d) = refl
square-difference f (inf false) (fin t n d) = refl
square-difference f (fin s m e) nan = refl
square-difference f (fin s m e) (inf true) = refl
square-difference f (fin s m e) (inf false) = refl
square-difference f (fin s m e) (fin t n d) =
    rw (mul_comm (down d) (down e))
    (square-sum f s t (m * up e * down d) (n * up d * down e) (down e * down d))

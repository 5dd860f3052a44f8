-- `ieee754::abs::abs` meets its contract: where x is not above zero, 0 - x is exact. Assumes
-- nothing.
use Prim.Native.Nat.{ℕ, zero, suc, ◌+◌, ◌-◌, ◌*◌, ◌<◌}
use mathlib.Core.Path.{◌≡◌, refl, sym, ap, ap₂, ◌∙◌}
use mathlib.Core.Bool.{Bool, true, false, cond, ◌&&◌, ◌||◌, false≢true}
use mathlib.Core.Logic.{◌⊎◌, inl, inr, ⊎_elim}
use native.Mathlib.Nat.{one-mul, zero-mul, mul-pos, zero-lt-suc}
use native.Mathlib.Omega.{arith}
use lib.IntN.{pos}
use lib.Dec.{T, ltb, eqb, eqb→eq}
use borrow.Author.Tests.{ltb-true, lt-ltb}
use lib.Ieee.{Float, nan, inf, fin, binary64, up, down, round, sub, le, fits, of_bits}
use lib.Ieee.Fits.{neg-fits, up_pos}
use denote.Floats.{passes}
use Rattle.ieee754.specs.Magnitude.{abs}
use Rattle.ieee754_parts.proofs.Tests.{answered}
use Rattle.ieee754.proofs.Unique.{round-own}
use Rattle.ieee754.proofs.abs.abs.Statement.{statement}
use Rattle.ieee754.proofs.abs.abs.Tie as tie

abbrev none : Float
none = fin false 0 (pos 0)

at_zero : of_bits binary64 0 ≡ none
unfolding of_bits
at_zero = refl

-- a number above zero is not at or below it
above : (a b : ℕ) (c : Bool) → b < a → ltb a b || (eqb a b && c) ≡ true → ⊥
above a b c l h =
    ⊎_elim (λ (x : ltb a b ≡ true). let y = ltb-true a b x in omega arith)
    (λ (x : eqb a b ≡ true). let y = eqb→eq a b (answered refl x) in omega arith)
    (one_of (ltb a b) (eqb a b) c h)
  where
    one_of : (u v w : Bool) → u || (v && w) ≡ true → (u ≡ true) ⊎ (v ≡ true)
    one_of true v w h = inl refl
    one_of false true w h = inr refl
    one_of false false w h = absurd (false≢true h)

-- ---- where x is not above zero

taken : (x : Float) → T (fits binary64 x) → le x none ≡ true → sub binary64 none x ≡ abs x
unfolding abs sub le
taken nan t h = absurd (false≢true h)
taken (inf false) t h = absurd (false≢true h)
taken (inf true) t h = refl
taken (fin true m e) t h =
    ap₂ (round binary64 false) (omega arith) (one-mul (down e))
    ∙ round-own false m e (neg-fits binary64 (fin true m e) t)
taken (fin false zero e) t h =
    let c = 1 * down e in
    ap₂
    (λ (a b : ℕ). cond (ltb a b) (round binary64 true (b - a) c) (round binary64 false (a - b) c))
    (zero-mul (down e)) (ap (λ (a : ℕ). a * 1) (zero-mul (up e)))
    ∙ ap₂ (round binary64 false) (sym (zero-mul (up e))) (one-mul (down e))
    ∙ round-own false 0 e t
taken (fin false (suc m) e) t h =
    absurd (above (suc m * up e * 1) (0 * down e) _
    (omega (arith, mul-pos (zero-lt-suc m) (up_pos e))) h)

-- ---- where it is above zero, or a NaN

-- what is minus a number is at or below zero
not-above : (a b : ℕ) → b ≡ 0 → ltb 0 (a + b) || (eqb a b && (false || eqb a 0)) ≡ true
not-above zero b e = rw e refl
not-above (suc a) b e = rw (lt-ltb 0 (suc a + b) (omega arith)) refl

left : (x : Float) → le x none ≡ false → x ≡ abs x
unfolding abs le
left nan h = refl
left (inf false) h = refl
left (inf true) h = absurd (false≢true (sym h))
left (fin false m e) h = refl
left (fin true m e) h =
    absurd (false≢true (sym h ∙ not-above (m * up e * 1) (0 * down e) (zero-mul (down e))))

returns : tie.Need-returns-then-x
returns c =
    let x = c.before.args.x in
    ap (λ (z : Float). sub binary64 z x) at_zero
    ∙ taken x (passes _ c.before.well_formed.0.1)
    (ap (le x) (sym at_zero) ∙ c.if-x.true)

returns-2 : tie.Need-returns-else-x
returns-2 c =
    let x = c.before.args.x in left x (ap (le x) (sym at_zero) ∙ c.if-x.false)

pub abs_spec : {M : Type 1} → statement M
abs_spec = tie.close (tie.spec returns returns-2)

-- The order of finite doubles: of two only one is below the other (`lt-asym`), and one is unless
-- they are equal (`lt-total`); what is below a second is below a third that is not below the second
-- (`lt-le-trans`). Assumes nothing.
use mathlib.Core.Bool.{Bool, true, false, not}
use mathlib.Core.Logic.{by_cases}
use Prim.Native.Nat.{ℕ, ◌+◌, ◌*◌, ◌≤◌, ◌<◌}
use native.Mathlib.Decide.{dec_lt}
use native.Mathlib.Nat.{mul-pos}
use native.Mathlib.Omega.{arith}
use lib.Dec.{T, ltb, ltb→lt, lt→ltb, nltb→le, not_T}
use borrow.Author.Tests.{eq-eqb}
use lib.Ieee.{Float, nan, inf, fin, up, down, below, level, lt, eq}
use lib.Ieee.Fits.{down_pos}
use lib.Ieee.Positive.{through, first_pos}
use lib.Ieee.Scale.{finite}

-- ---- of two
one_below : (s : Bool) (a : ℕ) (t : Bool) (b : ℕ) → T (below s a t b) → T (not (below t b s a))
one_below false a false b h =
    not_T (ltb b a) (λ k. let l = ltb→lt a b h in let m = ltb→lt b a k in omega arith)
one_below false a true b h = absurd h
one_below true a false b h = tt
one_below true a true b h =
    not_T (ltb a b) (λ k. let l = ltb→lt b a h in let m = ltb→lt a b k in omega arith)

pub lt-asym : (x y : Float) → T (finite x) → T (finite y) → T (lt x y) → T (not (lt y x))
unfolding lt
lt-asym nan y X Y h = absurd X
lt-asym (inf s) y X Y h = absurd X
lt-asym (fin s m e) nan X Y h = absurd Y
lt-asym (fin s m e) (inf t) X Y h = absurd Y
lt-asym (fin s m e) (fin t n d) X Y h =
    one_below s (m * up e * down d) t (n * up d * down e) h

other-below : (s : Bool) (a : ℕ) (t : Bool) (b : ℕ)
    → T (not (below s a t b))
    → T (not (level s a t b))
    → T (below t b s a)
other-below false a false b h k =
    let above = nltb→le a b h in
    by_cases (dec_lt b a) (lt→ltb b a) (λ n. absurd (rw (eq-eqb a b (omega arith)) at k))
other-below false a true b h k =
    by_cases (dec_lt 0 (b + a)) (lt→ltb 0 (b + a))
    (λ n. absurd (rw (eq-eqb a b (omega arith), eq-eqb a 0 (omega arith)) at k))
other-below true a false b h k =
    let zeros = nltb→le 0 (a + b) h in
    absurd (rw (eq-eqb a b (omega arith), eq-eqb a 0 (omega arith)) at k)
other-below true a true b h k =
    let above = nltb→le b a h in
    by_cases (dec_lt a b) (lt→ltb a b) (λ n. absurd (rw (eq-eqb a b (omega arith)) at k))

pub lt-total : (x y : Float)
    → T (finite x)
    → T (finite y)
    → T (not (lt x y))
    → T (not (eq x y))
    → T (lt y x)
unfolding lt eq
lt-total nan y X Y h k = absurd X
lt-total (inf s) y X Y h k = absurd X
lt-total (fin s m e) nan X Y h k = absurd Y
lt-total (fin s m e) (inf t) X Y h k = absurd Y
lt-total (fin s m e) (fin t n d) X Y h k =
    other-below s (m * up e * down d) t (n * up d * down e) h k

-- ---- of three
-- a product with a positive number tells whether a number is zero
null-too : (n u w : ℕ) → 0 < w → n * w ≤ 0 → n * u ≤ 0
null-too n u w W h =
    by_cases (dec_lt 0 (n * u))
    (λ l. let m = mul-pos (first_pos n u l) W in absurd (omega arith))
    (λ n. omega arith)

-- the fractions a / p, b / q and c / r
module _ (a b c p q r : ℕ) (P : 0 < p) (Q : 0 < q) (R : 0 < r) where
  -- the first is below the second, and the third is not; then the same of their negatives
  up_to : a * q < b * p → b * r ≤ c * q → a * r < c * p
  up_to h k =
      by_cases (dec_lt (a * r) (c * p)) (λ l. l)
      (λ n. let back = through b c a q r p R k (omega arith) in absurd (omega arith))

  down_to : b * p < a * q → c * q ≤ b * r → c * p < a * r
  down_to h k =
      by_cases (dec_lt (c * p) (a * r)) (λ l. l)
      (λ n. let back = through a c b p r q R (omega arith) k in absurd (omega arith))

  third : (s t u : Bool)
      → T (below s (a * q) t (b * p))
      → T (not (below u (c * q) t (b * r)))
      → T (below s (a * r) u (c * p))
  third false false false h k =
      lt→ltb (a * r) (c * p) (up_to (ltb→lt (a * q) (b * p) h) (nltb→le (c * q) (b * r) k))
  third false false true h k =
      let l = ltb→lt (a * q) (b * p) h in
      let z = nltb→le 0 (c * q + b * r) k in
      let b-null = null-too b p r R (omega arith) in
      absurd (omega arith)
  third false true u h k = absurd h
  third true false false h k =
      let l = ltb→lt 0 (a * q + b * p) h in
      let z = nltb→le (c * q) (b * r) k in
      by_cases (dec_lt 0 (a * r + c * p)) (lt→ltb 0 (a * r + c * p))
      (λ n.
      let a-null = null-too a q r R (omega arith) in
      let c-null = null-too c q p P (omega arith) in
      let b-null = null-too b p r R (omega arith) in
      absurd (omega arith))
  third true false true h k =
      let l = ltb→lt 0 (a * q + b * p) h in
      let z = nltb→le 0 (c * q + b * r) k in
      let b-null = null-too b p r R (omega arith) in
      let c-null = null-too c p q Q (omega arith) in
      by_cases (dec_lt (c * p) (a * r)) (lt→ltb (c * p) (a * r))
      (λ n. let a-null = null-too a q r R (omega arith) in absurd (omega arith))
  third true true false h k =
      let l = ltb→lt (b * p) (a * q) h in
      by_cases (dec_lt 0 (a * r + c * p)) (lt→ltb 0 (a * r + c * p))
      (λ n. let a-null = null-too a q r R (omega arith) in absurd (omega arith))
  third true true true h k =
      lt→ltb (c * p) (a * r) (down_to (ltb→lt (b * p) (a * q) h) (nltb→le (b * r) (c * q) k))

pub lt-le-trans : (x y z : Float)
    → T (finite x)
    → T (finite y)
    → T (finite z)
    → T (lt x y)
    → T (not (lt z y))
    → T (lt x z)
unfolding lt
lt-le-trans nan y z X Y Z h k = absurd X
lt-le-trans (inf s) y z X Y Z h k = absurd X
lt-le-trans (fin s m e) nan z X Y Z h k = absurd Y
lt-le-trans (fin s m e) (inf t) z X Y Z h k = absurd Y
lt-le-trans (fin s m e) (fin t n d) nan X Y Z h k = absurd Z
lt-le-trans (fin s m e) (fin t n d) (inf u) X Y Z h k = absurd Z
lt-le-trans (fin s m e) (fin t n d) (fin u l g) X Y Z h k =
    third (m * up e) (n * up d) (l * up g) (down e) (down d) (down g)
    (down_pos e) (down_pos d) (down_pos g) s t u h k

-- What `round_root` of Root.antt means. For a reader there are two laws. `dropped-drops`: with the
-- k digits that it drops, the root is below 2 ^ (prec + k) units, and no less than 2 ^ (prec - 1 +
-- k) unless k is 0, so 2 ^ k units is the step of the format's values there. `kept_near`: what is
-- kept, which is the result in such steps (`round_root-is`), is no further from the root than half
-- a step. For a proof there is one, `round_root-at`: how to meet `round_root`. Assumes nothing.
use Prim.Native.Nat.{ℕ, zero, suc, ◌+◌, ◌-◌, ◌*◌, ◌/◌, ◌^◌, ◌≤◌, ◌<◌, zero-le, compare, Ordering}
use mathlib.Core.Path.{◌≡◌, refl, sym, ap, ◌∙◌, subst}
use mathlib.Core.Logic.{◌⊎◌, inl, inr}
use mathlib.Core.Bool.{Bool, true, false, not, cond}
use native.Mathlib.Nat.{le_trans, le_of_eq, le_of_lt, lt_trans, lt_of_lt_of_le, lt_of_le_of_lt}
use native.Mathlib.Nat.{zero-add, mul_assoc, suc-mul, pow-le-pow_left, mul-pos, mul-le-mul_left}
use native.Mathlib.Nat.{mul-le-mul_right, mul-lt-mul_of_pos_left, mul-lt-mul_of_pos_right}
use native.Mathlib.Nat.{le_of_suc-le-suc, eq-zero-or-pos, div-lt_iff_lt-mul, le-div_iff_mul-le}
use native.Mathlib.Nat.{lt-div-mul-add}
use native.Mathlib.Numerals.{add-one}
use native.Mathlib.Omega.{arith}
use lib.Dec.{T, leb, leb→le, nleb→lt}
use lib.Pow.{pow_pos, pow_mono}
use lib.Ieee.{Float, Format, prec, low, size, nearest, units}
use lib.Ieee.Digits.{size-lt, size-le, size_reaches}
use lib.Ieee.Fits.{two}
use Rattle.ieee754.specs.Root.{root_digits, root, round_root}
use Rattle.ieee754_roots.specs.Nearest.{IsNearest}
use Rattle.ieee754_parts.proofs.Nearest.{Compared, compared}
use Rattle.ieee754_parts.proofs.Sizes.{size-gt}
use Rattle.ieee754.proofs.PowerLaws.{pow-mul, pow-shift, double-pow, split-pow, zero-pow}
use Rattle.ieee754.proofs.PowerLaws.{base-lt, pow-back}

-- ---- the whole part of a root

abbrev pub IsRoot : ℕ → ℕ → ℕ → Type 0
IsRoot p n q = (q ^ p ≤ n) × (n < suc q ^ p)

digits-root : (p k n a : ℕ) → a ^ p ≤ n → n < (a + 2 ^ k) ^ p → IsRoot p n (root_digits p k n a)
unfolding root_digits
digits-root p zero n a l h = (l, rw add-one at h)
digits-root p (suc k) n a l h =
    go (leb ((a + 2 ^ k) ^ p) n) (leb→le ((a + 2 ^ k) ^ p) n) (nleb→lt ((a + 2 ^ k) ^ p) n)
    (digits-root p k n)
  where
    halves : a + 2 ^ suc k ≡ a + 2 ^ k + 2 ^ k
    halves = omega arith

    go : (b : Bool)
        → (T b → (a + 2 ^ k) ^ p ≤ n)
        → (T (not b) → n < (a + 2 ^ k) ^ p)
        → ((a : ℕ) → a ^ p ≤ n → n < (a + 2 ^ k) ^ p → IsRoot p n (root_digits p k n a))
        → IsRoot p n (root_digits p k n (cond b (a + 2 ^ k) a))
    go true y z ih = ih (a + 2 ^ k) (y tt) (rw halves at h)
    go false y z ih = ih a l (z tt)

pub root_is : (p k n : ℕ) → 0 < p → n < 2 ^ (p * k) → IsRoot p n (root p k n)
unfolding root
root_is p k n P h =
    digits-root p k n 0 (le_trans (le_of_eq (zero-pow p P)) zero-le)
    (subst (λ (x : ℕ). n < x) (sym (ap (λ (x : ℕ). x ^ p) (zero-add (2 ^ k)) ∙ pow-mul 2 k p)) h)

-- ---- what `round_root` drops and keeps

abbrev pub dropped : ℕ → Format → ℕ → ℕ → ℕ
dropped p f n den = (size (n / den) + (p - 1)) / p - prec f

-- what it keeps: the number nearest to the root of n / u, of which it finds d digits
abbrev pub kept : ℕ → ℕ → ℕ → ℕ → ℕ
kept p d n u = nearest (root p d (n / u)) (compare (2 ^ p * n) ((2 * root p d (n / u) + 1) ^ p * u))

-- `round_root`, from its n, its k and its u on
abbrev pub core : ℕ → Format → Bool → ℕ → ℕ → ℕ → Float
core p f s n u k = units f s (kept p (prec f) n u) k

pub round_root-is : (p : ℕ) (f : Format) (s : Bool) (num den : ℕ)
    → let n = num * 2 ^ (p * low f) in
    let k = dropped p f n den in round_root p f s num den ≡ core p f s n (den * 2 ^ (p * k)) k
unfolding round_root
round_root-is p f s num den = refl

-- k digits are dropped where the root is below 2 ^ (prec + k) units and, unless k is 0, no less
-- than 2 ^ (prec - 1 + k)
abbrev pub Drops : ℕ → Format → ℕ → ℕ → ℕ → Type 0
Drops p f n den k =
    (n < 2 ^ (p * (prec f + k)) * den) × ((k ≡ 0) ⊎ (2 ^ (p * (prec f - 1 + k)) * den ≤ n))

-- a quotient, rounded up
ceil-ge : (p z : ℕ) → 0 < p → z ≤ p * ((z + (p - 1)) / p)
ceil-ge p z P = omega (arith, lt-div-mul-add {a = z + (p - 1)} P)

ceil-le : (p z w : ℕ) → 0 < p → z ≤ p * w → (z + (p - 1)) / p ≤ w
ceil-le p z w P h = le_of_suc-le-suc ((div-lt_iff_lt-mul P).1 (omega (arith, suc-mul w p)))

ceil-back : (p z w : ℕ) → 0 < p → w < (z + (p - 1)) / p → p * w < z
ceil-back p z w P h = omega (arith, suc-mul w p, (le-div_iff_mul-le P).0 h)

ceil-gt : (p z w : ℕ) → 0 < p → p * w < z → w < (z + (p - 1)) / p
ceil-gt p z w P h = (le-div_iff_mul-le P).1 (omega (arith, suc-mul w p))

-- the digits of a root are those of its radicand, divided by p and rounded up
pub dropped-drops : (p : ℕ) (f : Format) (n den : ℕ)
    → 0 < p
    → 0 < den
    → Drops p f n den (dropped p f n den)
dropped-drops p f n den P D = (
  (div-lt_iff_lt-mul D).0 (lt_of_lt_of_le (size-lt (n / den))
      (pow_mono (le_trans (ceil-ge p z P) (mul-le-mul_left p (enough w (prec f)))))),
  go (eq-zero-or-pos (w - prec f)),
)
  where
    z : ℕ
    z = size (n / den)

    w : ℕ
    w = (z + (p - 1)) / p

    enough : (a b : ℕ) → a ≤ b + (a - b)
    enough a b = omega arith

    go : (w - prec f ≡ 0) ⊎ (0 < w - prec f)
        → (w - prec f ≡ 0) ⊎ (2 ^ (p * (prec f - 1 + (w - prec f))) * den ≤ n)
    go (inl e) = inl e
    go (inr l) =
        inr ((le-div_iff_mul-le D).0 (size_reaches (n / den) (p * (prec f - 1 + (w - prec f)))
        (ceil-back p z (prec f - 1 + (w - prec f)) P (omega (arith, two f)))))

pub drops-dropped : (p : ℕ) (f : Format) (n den k : ℕ)
    → 0 < p
    → 0 < den
    → Drops p f n den k
    → dropped p f n den ≡ k
drops-dropped p f n den k P D d = go d.1
  where
    w : ℕ
    w = (size (n / den) + (p - 1)) / p

    under : w ≤ prec f + k
    under =
        ceil-le p (size (n / den)) (prec f + k) P
        (size-le (n / den) (p * (prec f + k)) ((div-lt_iff_lt-mul D).1 d.0))

    go : (k ≡ 0) ⊎ (2 ^ (p * (prec f - 1 + k)) * den ≤ n) → w - prec f ≡ k
    go (inl z) = omega (arith, under)
    go (inr l) =
        let over : prec f - 1 + k < w =
        ceil-gt p (size (n / den)) (prec f - 1 + k) P
        (size-gt (n / den) (p * (prec f - 1 + k)) ((le-div_iff_mul-le D).1 l)) in
        omega (arith, under, two f)

-- ---- the number that is chosen

-- q is the whole part of the p-th root of n / u
abbrev pub Whole : ℕ → ℕ → ℕ → ℕ → Type 0
Whole p n u q = ((2 * q) ^ p * u ≤ 2 ^ p * n) × (2 ^ p * n < (2 * suc q) ^ p * u)

-- twice the root of n / u lies between 2 * q - 1 and 2 * q + 1: strictly (`Within`), or at one of
-- them (`Near`)
abbrev pub Within : ℕ → ℕ → ℕ → ℕ → Type 0
Within p n u q = ((2 * q - 1) ^ p * u < 2 ^ p * n) × (2 ^ p * n < (2 * q + 1) ^ p * u)

abbrev pub Near : ℕ → ℕ → ℕ → ℕ → Type 0
Near p n u q = ((2 * q - 1) ^ p * u ≤ 2 ^ p * n) × (2 ^ p * n ≤ (2 * q + 1) ^ p * u)

whole : (p n u q : ℕ) → 0 < u → IsRoot p (n / u) q → Whole p n u q
whole p n u q U r = (
  le_trans (le_of_eq (sym (double-pow p q u)))
      (mul-le-mul_left (2 ^ p) ((le-div_iff_mul-le U).0 r.0)),
  lt_of_lt_of_le (mul-lt-mul_of_pos_left ((div-lt_iff_lt-mul U).0 r.1) (pow_pos p))
      (le_of_eq (double-pow p (suc q) u)),
)

-- only one number lies strictly within a half of the root, and it is chosen
chosen : (p n u q w : ℕ) (o : Ordering)
    → Compared o (2 ^ p * n) ((2 * w + 1) ^ p * u)
    → Whole p n u w
    → Within p n u q
    → nearest w o ≡ q
chosen p n u q w Ordering.lt c r h =
    omega (
      arith,
      pow-back p u (2 * q - 1) (2 * w + 1) (lt_trans h.0 c),
      pow-back p u (2 * w) (2 * q + 1) (lt_of_le_of_lt r.0 h.1),
    )
chosen p n u q w Ordering.eq c r h =
    absurd (no_tie
    (pow-back p u (2 * q - 1) (2 * w + 1) (lt_of_lt_of_le h.0 (le_of_eq c)))
    (pow-back p u (2 * w + 1) (2 * q + 1) (lt_of_le_of_lt (le_of_eq (sym c)) h.1)))
  where
    no_tie : 2 * q - 1 < 2 * w + 1 → 2 * w + 1 < 2 * q + 1 → ⊥
    no_tie a b = omega arith
chosen p n u q w Ordering.gt c r h =
    omega (
      arith,
      pow-back p u (2 * w + 1) (2 * q + 1) (lt_trans c h.1),
      pow-back p u (2 * q - 1) (2 * suc w) (lt_trans h.0 r.1),
    )

-- what is chosen is near
chosen-near : (p n u w : ℕ) (o : Ordering)
    → Compared o (2 ^ p * n) ((2 * w + 1) ^ p * u)
    → Whole p n u w
    → Near p n u (nearest w o)
chosen-near p n u w o c r = go o c
  where
    raise : {x y : ℕ} → x ≤ y → x ^ p * u ≤ y ^ p * u
    raise h = mul-le-mul_right u (pow-le-pow_left h p)

    go : (o : Ordering) → Compared o (2 ^ p * n) ((2 * w + 1) ^ p * u) → Near p n u (nearest w o)
    go Ordering.lt c = (le_trans (raise (omega arith)) r.0, le_of_lt c)
    go Ordering.eq c = (
      le_trans (raise (omega arith)) (le_of_eq (sym c)),
      le_trans (le_of_eq c) (raise (omega arith)),
    )
    go Ordering.gt c = (
      le_trans (raise (omega arith)) (le_of_lt c),
      le_trans (le_of_lt r.1) (raise (omega arith)),
    )

-- ---- the laws

pub quotient-lt : (p : ℕ) (f : Format) (n den k : ℕ)
    → 0 < den
    → n < 2 ^ (p * (prec f + k)) * den
    → n / (den * 2 ^ (p * k)) < 2 ^ (p * prec f)
quotient-lt p f n den k D h =
    (div-lt_iff_lt-mul (mul-pos D (pow_pos (p * k)))).1
    (lt_of_lt_of_le h (le_of_eq (split-pow p (prec f) k den)))

pub root-whole : (p : ℕ) (f : Format) (n den k : ℕ)
    → 0 < p
    → 0 < den
    → n < 2 ^ (p * (prec f + k)) * den
    → let u = den * 2 ^ (p * k) in Whole p n u (root p (prec f) (n / u))
root-whole p f n den k P D h =
    let u = den * 2 ^ (p * k) in
    whole p n u (root p (prec f) (n / u)) (mul-pos D (pow_pos (p * k)))
    (root_is p (prec f) (n / u) P (quotient-lt p f n den k D h))

core_at : (p : ℕ) (f : Format) (s : Bool) (num den k q : ℕ)
    → 0 < p
    → 0 < den
    → Drops p f (num * 2 ^ (p * low f)) den k
    → Within p (num * 2 ^ (p * low f)) (den * 2 ^ (p * k)) q
    → round_root p f s num den ≡ units f s q k
core_at p f s num den k q P D d h =
    let n = num * 2 ^ (p * low f) in
    let u = den * 2 ^ (p * k) in
    let w = root p (prec f) (n / u) in
    round_root-is p f s num den
    ∙ ap (λ (j : ℕ). core p f s n (den * 2 ^ (p * j)) j) (drops-dropped p f n den k P D d)
    ∙ ap (λ (x : ℕ). units f s x k) (chosen p n u q w (compare (2 ^ p * n) ((2 * w + 1) ^ p * u))
    (compared (2 ^ p * n) ((2 * w + 1) ^ p * u)) (root-whole p f n den k P D d.0) h)

-- where the radicand is N times the p-th power of 2 ^ k, and the root of N has all the format's
-- digits
drops-times : (p : ℕ) (f : Format) (N den k : ℕ)
    → 0 < den
    → 2 ^ (p * (prec f - 1)) ≤ N
    → N < 2 ^ (p * prec f)
    → Drops p f (N * (den * 2 ^ (p * k))) den k
drops-times p f N den k D lo hi =
    let u = den * 2 ^ (p * k) in (
      rw split-pow (mul-lt-mul_of_pos_right hi (mul-pos D (pow_pos (p * k)))),
      inr (rw split-pow (mul-le-mul_right u lo)),
    )

-- How the functions of this crate meet `round_root`. The radicand is N times u, the p-th power of
-- the unit of the result's last digit, and N is such that its root has all the format's digits.
-- Then the whole number nearest to the root of N is the result in those units.
pub round_root-at : (p : ℕ) (f : Format) (s : Bool) (num den k N q : ℕ)
    → 0 < p
    → 0 < den
    → num * 2 ^ (p * low f) ≡ N * (den * 2 ^ (p * k))
    → 2 ^ (p * (prec f - 1)) ≤ N
    → N < 2 ^ (p * prec f)
    → IsNearest p N q
    → round_root p f s num den ≡ units f s q k
round_root-at p f s num den k N q P D e lo hi r =
    let u = den * 2 ^ (p * k) in
    let U : 0 < u = mul-pos D (pow_pos (p * k)) in
    let up : 2 ^ p * (N * u) ≡ 2 ^ p * N * u = sym (mul_assoc (2 ^ p) N u) in
    core_at p f s num den k q P D
    (subst (λ (n : ℕ). Drops p f n den k) (sym e) (drops-times p f N den k D lo hi))
    (subst (λ (n : ℕ). Within p n u q)
    (sym e)
    (rw up (mul-lt-mul_of_pos_right r.above U), rw up (mul-lt-mul_of_pos_right r.below U)))

-- Whatever the fraction, what is kept is as near to the root as any
pub kept_near : (p : ℕ) (f : Format) (n den : ℕ)
    → 0 < p
    → 0 < den
    → let u = den * 2 ^ (p * dropped p f n den) in Near p n u (kept p (prec f) n u)
kept_near p f n den P D =
    let k = dropped p f n den in
    let u = den * 2 ^ (p * k) in
    let w = root p (prec f) (n / u) in
    let middle = (2 * w + 1) ^ p * u in
    chosen-near p n u w (compare (2 ^ p * n) middle) (compared (2 ^ p * n) middle)
    (root-whole p f n den k P D (dropped-drops p f n den P D).0)

-- the nearest number has the digits of the root, or is the next power of two
pub nearest-ge : (p j n q : ℕ) → 2 ^ (p * j) ≤ n → IsNearest p n q → 2 ^ j ≤ q
nearest-ge p j n q h r =
    omega (
      arith,
      base-lt p (2 * 2 ^ j) (2 * q + 1) (lt_of_le_of_lt
          (le_trans (le_of_eq (sym (pow-shift p 2 j))) (mul-le-mul_left (2 ^ p) h)) r.below),
    )

pub nearest-le : (p j n q : ℕ) → n < 2 ^ (p * j) → IsNearest p n q → q ≤ 2 ^ j
nearest-le p j n q h r =
    omega (
      arith,
      base-lt p (2 * q - 1) (2 * 2 ^ j) (lt_of_lt_of_le
          (lt_trans r.above (mul-lt-mul_of_pos_left h (pow_pos p)))
          (le_of_eq (pow-shift p 2 j))),
    )

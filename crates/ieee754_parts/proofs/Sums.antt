-- Laws of `sum`, the rounded sum of two signed fractions: it sees only their values, it does not
-- see their order, and a term that was cut short by `jam` gives what the whole term gives, provided
-- that enough is kept. Of two terms that are known only to whole units it is the rounded value of a
-- number within known bounds (`sum-between`). Assumes nothing.
use Rattle.std.proofs.Common.{◌≡◌, ℕ, suc, ◌+◌, ◌-◌, ◌*◌, ◌/◌, ◌%◌, ◌^◌, ◌<◌, ◌≤◌, Bool, true, false, cond, ◌&&◌, ltb, sym, refl, ap, ◌∙◌, subst, ap₂, ⊎_elim, le_of_lt, mul-le-mul_right, mul_assoc, suc-mul, mul_comm, add-mul, add_comm, arith, pow_pos, pow-add, le-ltb, lt-ltb}
use native.Mathlib.Nat.{mul-sub, mul-mod_left, mul-add-mod_self_right, zero-mod, pow-succ'}
use native.Mathlib.Nat.{dvd_of_mod-eq-zero, div-mul_cancel}
use mathlib.Core.Bool.{beq, and-true}
use lib.Ieee.{Format, prec, low, round, sum}
use lib.Ieee.Scale.{round_same}
use Rattle.ieee754_parts.specs.Jam.{jam}
use Rattle.ieee754_parts.proofs.Jam.{jam-add, jam-off, jam-from, jam-below, jam-above}
use Rattle.ieee754_parts.proofs.Tests.{lt-or-ge, same_test, scaled-test, cross-test}
use Rattle.ieee754_parts.proofs.Rounding.{Kept, round-jam}

pub sum_is : (f : Format) (s : Bool) (a : ℕ) (t : Bool) (b c : ℕ)
    → sum f s a t b c
    ≡ cond (beq s t) (round f s (a + b) c)
    (cond (ltb a b) (round f t (b - a) c) (round f (s && ltb b a) (a - b) c))
unfolding sum
sum_is f s a t b c = refl

pub sub-mul : (a b c : ℕ) → (a - b) * c ≡ a * c - b * c
sub-mul a b c =
    mul_comm (a - b) c ∙ mul-sub c a b ∙ ap₂ (λ (x y : ℕ). x - y) (mul_comm c a) (mul_comm c b)

-- the difference of two numbers over c, and of those over c' that equal them
pub cross-sub : (a b c a' b' c' : ℕ)
    → a * c' ≡ a' * c
    → b * c' ≡ b' * c
    → (a - b) * c' ≡ (a' - b') * c
cross-sub a b c a' b' c' x y = sub-mul a b c' ∙ ap₂ (λ (u v : ℕ). u - v) x y ∙ sym (sub-mul a' b' c)

-- ---- equal fractions
pub sum_same : (f : Format) (s : Bool) (a : ℕ) (t : Bool) (b c a' b' c' : ℕ)
    → 0 < c
    → 0 < c'
    → a * c' ≡ a' * c
    → b * c' ≡ b' * c
    → sum f s a t b c ≡ sum f s a' t b' c'
sum_same f s a t b c a' b' c' C C' x y =
    let less : ltb a b ≡ ltb a' b' = cross-test ltb scaled-test a b c a' b' c' C C' x y in
    let more : ltb b a ≡ ltb b' a' = cross-test ltb scaled-test b a c b' a' c' C C' y x in
    let plus =
    round_same f s (a + b) c (a' + b') c' C C'
    (add-mul a b c' ∙ ap₂ (λ (u v : ℕ). u + v) x y ∙ sym (add-mul a' b' c)) in
    let from = round_same f t (b - a) c (b' - a') c' C C' (cross-sub b a c b' a' c' y x) in
    let off : round f (s && ltb b a) (a - b) c ≡ round f (s && ltb b' a') (a' - b') c' =
    ap (λ (v : Bool). round f (s && v) (a - b) c) more
    ∙ round_same f (s && ltb b' a') (a - b) c (a' - b') c' C C' (cross-sub a b c a' b' c' x y) in
    sum_is f s a t b c
    ∙ (λ i. cond (beq s t) (plus i) (cond (less i) (from i) (off i)))
    ∙ sym (sum_is f s a' t b' c')

-- ---- two numbers with one scale E
pub sum-scaled : (f : Format) (s : Bool) (a : ℕ) (t : Bool) (b E c : ℕ)
    → 0 < E
    → sum f s (a * E) t (b * E) c
    ≡ cond (beq s t) (round f s ((a + b) * E) c)
    (cond (ltb a b) (round f t ((b - a) * E) c) (round f (s && ltb b a) ((a - b) * E) c))
sum-scaled f s a t b E c P =
    sum_is f s (a * E) t (b * E) c
    ∙ (λ i.
    cond (beq s t) (round f s (sym (add-mul a b E) i) c)
    (cond (scaled-test a b E P i)
    (round f t (sym (sub-mul b a E) i) c)
    (round f (s && scaled-test b a E P i) (sym (sub-mul a b E) i) c)))

-- ---- the order of the two
unlike-comm : (f : Format) (a b c : ℕ)
    → cond (ltb a b) (round f false (b - a) c) (round f (ltb b a) (a - b) c)
    ≡ cond (ltb b a) (round f true (a - b) c) (round f false (b - a) c)
unlike-comm f a b c =
    ⊎_elim (λ (l : a < b). rw (lt-ltb a b l, le-ltb b a (le_of_lt l)))
    (λ (g : b ≤ a).
    ⊎_elim (λ (l : b < a). rw (le-ltb a b g, lt-ltb b a l))
    (λ (h : a ≤ b).
    rw (le-ltb a b g, le-ltb b a h) (ap (λ (x : ℕ). round f false x c) (omega arith)))
    (lt-or-ge b a)) (lt-or-ge a b)

pub sum_comm : (f : Format) (s : Bool) (a : ℕ) (t : Bool) (b c : ℕ)
    → sum f s a t b c ≡ sum f t b s a c
unfolding sum
sum_comm f true a true b c = ap (λ (x : ℕ). round f true x c) (add_comm a b)
sum_comm f true a false b c = unlike-comm f a b c
sum_comm f false a true b c = sym (unlike-comm f b a c)
sum_comm f false a false b c = ap (λ (x : ℕ). round f false x c) (add_comm a b)

-- ---- a term p that was cut short, with a term a * 2 that is not

-- what is cut off lies below half of the smallest value; or nothing is cut off; or the other term
-- is larger by far
pub data Apart (f : Format) (u e k p a : ℕ) : Type 0 where
  fine : suc k + e < u → Apart f u e k p a
  exact : p % 2 ^ suc k ≡ 0 → Apart f u e k p a
  far : jam k p + 2 ^ suc (prec f) ≤ a * 2 → Apart f u e k p a

-- a number that leaves nothing over is so many times G
whole_multiple : (p G : ℕ) → p % G ≡ 0 → p / G * G ≡ p
whole_multiple p G h = div-mul_cancel G (dvd_of_mod-eq-zero G h)

-- two multiples of G differ by one
multiples : (a b G : ℕ) → (a * G - b * G) % G ≡ 0
multiples a b G = ap (λ (x : ℕ). x % G) (sym (sub-mul a b G)) ∙ mul-mod_left (a - b) G

-- so enough is kept in the sum, and in the difference either way round
kept-add : (f : Format) (u e k p a : ℕ) → Apart f u e k p a → Kept f u e k (a * 2 ^ suc k + p)
kept-add f u e k p a (fine h) = Kept.fine h
kept-add f u e k p a (exact h) = Kept.exact (mul-add-mod_self_right a (2 ^ suc k) p ∙ h)
kept-add f u e k p a (far h) = Kept.long (omega (arith, jam-add k a p))

kept_from : (f : Format) (u e k p a : ℕ) → Apart f u e k p a → Kept f u e k (a * 2 ^ suc k - p)
kept_from f u e k p a (fine h) = Kept.fine h
kept_from f u e k p a (exact h) =
    Kept.exact (subst (λ (x : ℕ). (a * 2 ^ suc k - x) % 2 ^ suc k ≡ 0)
    (whole_multiple p (2 ^ suc k) h) (multiples a (p / 2 ^ suc k) (2 ^ suc k)))
kept_from f u e k p a (far h) = Kept.long (omega (arith, jam-from k a p))

kept_off : (f : Format) (u e k p a : ℕ) → Apart f u e k p a → Kept f u e k (p - a * 2 ^ suc k)
kept_off f u e k p a (fine h) = Kept.fine h
kept_off f u e k p a (exact h) =
    Kept.exact (subst (λ (x : ℕ). (x - a * 2 ^ suc k) % 2 ^ suc k ≡ 0)
    (whole_multiple p (2 ^ suc k) h) (multiples (p / 2 ^ suc k) a (2 ^ suc k)))
kept_off f u e k p a (far h) =
    let l = (jam-below k a p).1 (omega (arith, pow_pos (suc (prec f)))) in
    Kept.exact (ap (λ (x : ℕ). x % 2 ^ suc k) (omega arith) ∙ zero-mod (2 ^ suc k))

-- so the three results of `sum`, and its two tests, are those of the whole term
pub sum-jam : (f : Format) (u e k p a : ℕ)
    → Apart f u e k p a
    → (s t : Bool)
    → sum f s (jam k p * 2 ^ (k + e)) t (a * 2 * 2 ^ (k + e)) (2 ^ (u + low f))
    ≡ sum f s (p * 2 ^ e) t (a * 2 * 2 ^ (k + e)) (2 ^ (u + low f))
sum-jam f u e k p a h s t =
    let D = 2 ^ (u + low f) in
    let E = 2 ^ (k + e) in
    let j = jam k p in
    let A = a * 2 ^ suc k in
    let whole : A * 2 ^ e ≡ a * 2 * E = simp (pow-succ', pow-add, mul_assoc) in
    let less : ltb j (a * 2) ≡ ltb p A = sym (same_test p A j (a * 2) (jam-below k a p)) in
    let more : ltb (a * 2) j ≡ ltb A p = sym (same_test A p (a * 2) j (jam-above k a p)) in
    let plus : round f s ((j + a * 2) * E) D ≡ round f s ((p + A) * 2 ^ e) D =
    rw (add_comm j (a * 2), add_comm p A, ← jam-add k a p)
    (round-jam f s u e k (A + p) (kept-add f u e k p a h)) in
    let from : round f t ((a * 2 - j) * E) D ≡ round f t ((A - p) * 2 ^ e) D =
    rw (← jam-from k a p) (round-jam f t u e k (A - p) (kept_from f u e k p a h)) in
    let off :
    round f (s && ltb (a * 2) j) ((j - a * 2) * E) D ≡ round f (s && ltb A p) ((p - A) * 2 ^ e) D =
    rw (more, ← jam-off k a p)
    (round-jam f (s && ltb A p) u e k (p - A) (kept_off f u e k p a h)) in
    sum-scaled f s j t (a * 2) E D (pow_pos (k + e))
    ∙ (λ i. cond (beq s t) (plus i) (cond (less i) (from i) (off i)))
    ∙ sym (sum-scaled f s p t A (2 ^ e) D (pow_pos e))
    ∙ ap (λ (x : ℕ). sum f s (p * 2 ^ e) t x D) whole

-- ---- two terms of which a whole number of units E is known, a of L and b of M, and n, the sum or
-- the difference of these: the terms' own is less than a unit below it and less than two above it
module _ (f : Format) (s t : Bool) (c L M E a b n : ℕ) (aL : a * E ≤ L) (La : L < suc a * E)
    (bM : b * E ≤ M) (Mb : M < suc b * E) where
  like-bounds : n ≡ a + b → ((n - 1) * E ≤ L + M) × (L + M ≤ (n + 2) * E)
  like-bounds h =
      let e : n * E ≡ a * E + b * E = ap (λ (x : ℕ). x * E) h ∙ add-mul a b E in (
        omega (arith, e, sub-mul n 1 E, suc-mul a E, suc-mul b E),
        omega (arith, e, add-mul n 2 E, suc-mul a E, suc-mul b E),
      )

  unlike-bounds : n + b ≡ a → 0 < n → (M < L) × ((n - 1) * E ≤ L - M) × (L - M ≤ (n + 2) * E)
  unlike-bounds h p =
      let e : n * E + b * E ≡ a * E = sym (add-mul n b E) ∙ ap (λ (x : ℕ). x * E) h in
      let g : 1 * E ≤ n * E = mul-le-mul_right E p in (
        omega (arith, e, g, suc-mul b E),
        omega (arith, e, g, sub-mul n 1 E, suc-mul a E, suc-mul b E),
        omega (arith, e, g, add-mul n 2 E, suc-mul a E, suc-mul b E),
      )

  abbrev pub Between : ℕ → Type 0
  Between v = (sum f s L t M c ≡ round f s v c) × ((n - 1) * E ≤ v) × (v ≤ (n + 2) * E)

  pub sum-between : n + cond (beq s t) 0 b ≡ a + cond (beq s t) b 0
      → 0 < n
      → (v : ℕ) × Between v
  sum-between = by (beq s t) refl
    where
      by : (e : Bool)
          → beq s t ≡ e
          → n + cond e 0 b ≡ a + cond e b 0
          → 0 < n
          → (v : ℕ) × Between v
      by true e h p =
          let u = like-bounds (omega arith) in (L + M, (sum_is f s L t M c ∙ rw e, u.0, u.1))
      by false e h p =
          let u = unlike-bounds (omega arith) p in (
            L - M,
            (
              sum_is f s L t M c
                  ∙ rw (e, le-ltb L M (le_of_lt u.0), lt-ltb M L u.0)
                  (ap (λ (x : Bool). round f x (L - M) c) (and-true s)),
              u.1,
              u.2,
            ),
          )

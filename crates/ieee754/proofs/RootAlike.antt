-- Two roots that lie alike among the halves of the format's smallest value are rounded alike, of
-- whatever degrees p and q they are (`round_root-alike`). Assumes nothing.
use Prim.Native.Nat.{ℕ, suc, ◌+◌, ◌-◌, ◌*◌, ◌/◌, ◌^◌, ◌≤◌, ◌<◌, compare, Ordering}
use mathlib.Core.Path.{◌≡◌, sym, ap, ◌∙◌, subst}
use mathlib.Core.Logic.{◌⊎◌, inl, inr, ⊎_elim}
use mathlib.Core.Bool.{Bool}
use native.Mathlib.Nat.{le_of_eq, lt_of_le_of_lt, lt_of_lt_of_le, lt_of_not-le}
use native.Mathlib.Nat.{not-le_of_lt, mul_assoc, mul-le-mul_left, mul-lt-mul_of_pos_left}
use native.Mathlib.Omega.{arith}
use lib.Pow.{pow_pos}
use lib.Ieee.{Format, prec, low, nearest, units}
use Rattle.ieee754.specs.Root.{root, round_root}
use Rattle.ieee754_parts.proofs.Tests.{lt-or-ge}
use Rattle.ieee754_parts.proofs.Nearest.{Compared, compared, compare-is}
use Rattle.ieee754.proofs.PowerLaws.{pow-shift, raised, pow-back}
use Rattle.ieee754.proofs.RootLaws.{Drops, Whole, dropped, kept, core, round_root-is, root-whole}
use Rattle.ieee754.proofs.RootLaws.{dropped-drops, drops-dropped}

-- ---- numbers that compare alike
lt_alike : (a b c d : ℕ) → compare a b ≡ compare c d → a < b → c < d
lt_alike a b c d e h =
    subst (λ (o : Ordering). Compared o c d) (sym e ∙ compare-is a b Ordering.lt h) (compared c d)

le_alike : (a b c d : ℕ) → compare a b ≡ compare c d → b ≤ a → d ≤ c
le_alike a b c d e h =
    ⊎_elim (λ (l : c < d). absurd (not-le_of_lt (lt_alike c d a b (sym e) l) h))
    (λ (g : d ≤ c). g)
    (lt-or-ge c d)

-- twice a root is y halves of the unit
halves : (p j c : ℕ) → 2 ^ p * (2 ^ (p * j) * c) ≡ (2 * 2 ^ j) ^ p * c
halves p j c =
    sym (mul_assoc (2 ^ p) (2 ^ (p * j)) c) ∙ ap (λ (x : ℕ). x * c) (pow-shift p 2 j)

-- The p-th root of n / c and the q-th root of m / d lie on one side of each y / 2, or both at it.
abbrev pub Alike : ℕ → ℕ → ℕ → ℕ → ℕ → ℕ → Type 0
Alike p n c q m d = (y : ℕ) → compare (2 ^ p * n) (y ^ p * c) ≡ compare (2 ^ q * m) (y ^ q * d)

-- so does each of their fractions by powers of 2
module _ (p n c q m d : ℕ) (same : Alike p n c q m d) where
  below : (j : ℕ) → n < 2 ^ (p * j) * c → m < 2 ^ (q * j) * d
  below j h =
      let l : 2 ^ p * n < (2 * 2 ^ j) ^ p * c =
      lt_of_lt_of_le (mul-lt-mul_of_pos_left h (pow_pos p)) (le_of_eq (halves p j c)) in
      let r : 2 ^ q * m < 2 ^ q * (2 ^ (q * j) * d) =
      lt_of_lt_of_le (lt_alike (2 ^ p * n) ((2 * 2 ^ j) ^ p * c) (2 ^ q * m)
      ((2 * 2 ^ j) ^ q * d) (same (2 * 2 ^ j)) l) (le_of_eq (sym (halves q j d))) in
      lt_of_not-le (λ (g : 2 ^ (q * j) * d ≤ m). not-le_of_lt r (mul-le-mul_left (2 ^ q) g))

  at : (x k : ℕ)
      → compare (2 ^ p * n) (x ^ p * (c * 2 ^ (p * k)))
      ≡ compare (2 ^ q * m) (x ^ q * (d * 2 ^ (q * k)))
  at x k =
      ap (λ (z : ℕ). compare (2 ^ p * n) z) (raised p x k c)
      ∙ same (x * 2 ^ k)
      ∙ ap (λ (z : ℕ). compare (2 ^ q * m) z) (sym (raised q x k d))

  whole : (k w : ℕ) → Whole p n (c * 2 ^ (p * k)) w → Whole q m (d * 2 ^ (q * k)) w
  whole k w h = (
    le_alike (2 ^ p * n) ((2 * w) ^ p * (c * 2 ^ (p * k))) (2 ^ q * m)
        ((2 * w) ^ q * (d * 2 ^ (q * k))) (at (2 * w) k) h.0,
    lt_alike (2 ^ p * n) ((2 * suc w) ^ p * (c * 2 ^ (p * k))) (2 ^ q * m)
        ((2 * suc w) ^ q * (d * 2 ^ (q * k))) (at (2 * suc w) k) h.1,
  )

-- a root has one whole part
one_whole : (q m u a b : ℕ) → Whole q m u a → Whole q m u b → a ≡ b
one_whole q m u a b x y =
    omega (
      arith,
      pow-back q u (2 * a) (2 * suc b) (lt_of_le_of_lt x.0 y.1),
      pow-back q u (2 * b) (2 * suc a) (lt_of_le_of_lt y.0 x.1),
    )

module _ (p n c q m d : ℕ) (same : Alike p n c q m d) (P : 0 < p) (Q : 0 < q) (C : 0 < c)
    (D : 0 < d) (f : Format) where
  drops : (k : ℕ) → Drops p f n c k → Drops q f m d k
  drops k h = (below p n c q m d same (prec f + k) h.0, go h.1)
    where
      go : (k ≡ 0) ⊎ (2 ^ (p * (prec f - 1 + k)) * c ≤ n)
          → (k ≡ 0) ⊎ (2 ^ (q * (prec f - 1 + k)) * d ≤ m)
      go (inl z) = inl z
      go (inr g) =
          inr (⊎_elim (λ (l : m < 2 ^ (q * (prec f - 1 + k)) * d).
          absurd (not-le_of_lt (below q m d p n c (λ y. sym (same y)) (prec f - 1 + k) l) g))
          (λ (r : 2 ^ (q * (prec f - 1 + k)) * d ≤ m). r)
          (lt-or-ge m (2 ^ (q * (prec f - 1 + k)) * d)))

  dropped_alike : dropped q f m d ≡ dropped p f n c
  dropped_alike =
      drops-dropped q f m d (dropped p f n c) Q D
      (drops (dropped p f n c) (dropped-drops p f n c P C))

  kept_alike : (k : ℕ)
      → Drops p f n c k
      → kept p (prec f) n (c * 2 ^ (p * k)) ≡ kept q (prec f) m (d * 2 ^ (q * k))
  kept_alike k h =
      let u = c * 2 ^ (p * k) in
      let v = d * 2 ^ (q * k) in
      let w = root p (prec f) (n / u) in
      let e : w ≡ root q (prec f) (m / v) =
      one_whole q m v w (root q (prec f) (m / v))
      (whole p n c q m d same k w (root-whole p f n c k P C h.0))
      (root-whole q f m d k Q D (drops k h).0) in
      ap (nearest w) (at p n c q m d same (2 * w + 1) k)
      ∙ ap (λ (x : ℕ). nearest x (compare (2 ^ q * m) ((2 * x + 1) ^ q * v))) e

  core_alike : (s : Bool)
      → core p f s n (c * 2 ^ (p * dropped p f n c)) (dropped p f n c)
      ≡ core q f s m (d * 2 ^ (q * dropped q f m d)) (dropped q f m d)
  core_alike s =
      let k = dropped p f n c in
      ap (λ (x : ℕ). units f s x k) (kept_alike k (dropped-drops p f n c P C))
      ∙ ap (λ (j : ℕ). core q f s m (d * 2 ^ (q * j)) j) (sym dropped_alike)

pub round_root-alike : (p q : ℕ) (f : Format) (s : Bool) (a c b d : ℕ)
    → 0 < p
    → 0 < q
    → 0 < c
    → 0 < d
    → Alike p (a * 2 ^ (p * low f)) c q (b * 2 ^ (q * low f)) d
    → round_root p f s a c ≡ round_root q f s b d
round_root-alike p q f s a c b d P Q C D same =
    round_root-is p f s a c
    ∙ core_alike p (a * 2 ^ (p * low f)) c q (b * 2 ^ (q * low f)) d same P Q C D f s
    ∙ sym (round_root-is q f s b d)

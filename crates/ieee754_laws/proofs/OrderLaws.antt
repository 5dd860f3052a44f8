-- The total order: it is total (`order-total`), transitive (`order_trans`), antisymmetric on
-- doubles (`order-antisym`, and `cmp-equal`), agrees with `lt` on numbers (`order_lt`, `lt_order`,
-- `lt-order-not`), has minus zero below plus zero (`order-zeros`) and NaN above every number
-- (`order-nan`, `order-from-nan`). Assumes nothing.
use mathlib.Core.Path.{◌≡◌, refl, sym, ap, ap₂, ◌∙◌, subst}
use Prim.Native.Nat.{ℕ, zero, suc, ◌+◌, ◌*◌, ◌≤◌, ◌<◌, compare, Ordering}
use native.Mathlib.Nat.{le_of_eq, le_of_lt, le_antisymm}
use native.Mathlib.Omega.{arith}
use mathlib.Core.Bool.{Bool, true, false, not, cond, ◌&&◌, ◌||◌, and-false, or-false}
use mathlib.Core.Logic.{⊎_elim}
use lib.IntN.{ℤ}
use lib.Dec.{T, is_le, compare_is_eq, leb, ltb, eqb, leb→le, le→leb, ltb→lt}
use lib.Arith.{lt→nleb}
use lib.Ieee.{Float, nan, inf, fin, binary64, up, down, below, level, lt, eq, is_nan, fits, of_bits}
use lib.Ieee.Fits.{down_pos}
use lib.Ieee.Positive.{through}
use borrow.Author.Tests.{lt-ltb, le-ltb, lt-leb, le-leb}
use Rattle.ieee754.specs.Literal.{double}
use Rattle.ieee754.specs.TotalOrder.{total_order, total_cmp}
use Rattle.std.specs.declared.cmp.Ordering.TheVariants.{Less, Equal, Greater}
use Rattle.ieee754_parts.proofs.Tests.{lt-or-ge}
use Rattle.ieee754.proofs.Tests.{or_left, or_right}
use Rattle.ieee754_parts.proofs.Nearest.{Compared, compared}
use Rattle.ieee754.proofs.Unique.{fits-unique}

-- ---- finite values: ±a is at or below ±b, a minus zero being below a plus zero
abbrev signed : Bool → ℕ → Bool → ℕ → Bool
signed false a false b = leb a b
signed false a true b = false
signed true a false b = true
signed true a true b = leb b a

-- what `total_order` asks of two finite values
abbrev asked : Bool → ℕ → Bool → ℕ → Bool
asked s a t b = below s a t b || (level s a t b && (s || not t))

asked_is : (s : Bool) (a : ℕ) (t : Bool) (b : ℕ) → asked s a t b ≡ signed s a t b
asked_is false a false b = go (compare a b) (compared a b)
  where
    go : (o : Ordering) → Compared o a b → ltb a b || (compare_is_eq o && true && true) ≡ is_le o
    go Ordering.lt h = ap (λ (x : Bool). x || false) (lt-ltb a b h)
    go Ordering.eq h = ap (λ (x : Bool). x || true) (le-ltb a b (le_of_eq (sym h)))
    go Ordering.gt h = ap (λ (x : Bool). x || false) (le-ltb a b (le_of_lt h))
asked_is false a true b = and-false (eqb a b && eqb a 0)
asked_is true zero false zero = refl
asked_is true zero false (suc b) =
    ap (λ (x : Bool). x || (eqb zero (suc b) && eqb zero 0 && true))
    (lt-ltb 0 (0 + suc b) (omega arith))
asked_is true (suc a) false b =
    ap (λ (x : Bool). x || (eqb (suc a) b && eqb (suc a) 0 && true))
    (lt-ltb 0 (suc a + b) (omega arith))
asked_is true a true b = go (compare a b) (compared a b)
  where
    go : (o : Ordering) → Compared o a b → ltb b a || (compare_is_eq o && true && true) ≡ leb b a
    go Ordering.lt h = ap (λ (x : Bool). x || false) (le-ltb b a (le_of_lt h)) ∙ sym (lt-leb b a h)
    go Ordering.eq h =
        ap (λ (x : Bool). x || true) (le-ltb b a (le_of_eq h)) ∙ sym (le-leb b a (le_of_eq (sym h)))
    go Ordering.gt h = ap (λ (x : Bool). x || false) (lt-ltb b a h) ∙ sym (le-leb b a (le_of_lt h))

order-fin : (s : Bool) (m : ℕ) (e : ℤ) (t : Bool) (n : ℕ) (d : ℤ)
    → total_order (fin s m e) (fin t n d) ≡ signed s (m * up e * down d) t (n * up d * down e)
unfolding total_order lt eq is_nan
order-fin s m e t n d = asked_is s (m * up e * down d) t (n * up d * down e)

-- ---- total
-- of one sign: of two negative values the test is that of the two numbers in the other order
leb-total : (a b : ℕ) → T (leb a b || leb b a)
leb-total a b =
    ⊎_elim (λ (l : a < b). or_left (leb a b) (leb b a) (le→leb a b (le_of_lt l)))
    (λ (g : b ≤ a). or_right (leb a b) (leb b a) (le→leb b a g))
    (lt-or-ge a b)

signed-total : (s : Bool) (a : ℕ) (t : Bool) (b : ℕ) → T (signed s a t b || signed t b s a)
signed-total false a false b = leb-total a b
signed-total false a true b = tt
signed-total true a false b = tt
signed-total true a true b = leb-total b a

pub order-total : (x y : Float) → T (total_order x y || total_order y x)
unfolding total_order lt eq is_nan
order-total x nan = tt
order-total nan (inf t) = tt
order-total nan (fin t n d) = tt
order-total (inf true) (inf true) = tt
order-total (inf true) (inf false) = tt
order-total (inf false) (inf true) = tt
order-total (inf false) (inf false) = tt
order-total (inf true) (fin t n d) = tt
order-total (inf false) (fin t n d) = tt
order-total (fin s m e) (inf true) = tt
order-total (fin s m e) (inf false) = tt
order-total (fin s m e) (fin t n d) =
    let a = m * up e * down d in
    let b = n * up d * down e in
    subst T (sym (ap₂ ◌||◌ (asked_is s a t b) (asked_is t b s a))) (signed-total s a t b)

-- ---- transitive
-- of one sign
leb-through : (a p b q c r : ℕ)
    → 0 < q
    → T (leb (a * q) (b * p))
    → T (leb (b * r) (c * q))
    → T (leb (a * r) (c * p))
leb-through a p b q c r Q h k =
    le→leb (a * r) (c * p)
    (through a b c p q r Q (leb→le (a * q) (b * p) h) (leb→le (b * r) (c * q) k))

signed-trans : (s : Bool) (a p : ℕ) (t : Bool) (b q : ℕ) (u : Bool) (c r : ℕ)
    → 0 < q
    → T (signed s (a * q) t (b * p))
    → T (signed t (b * r) u (c * q))
    → T (signed s (a * r) u (c * p))
signed-trans false a p false b q false c r Q h k = leb-through a p b q c r Q h k
signed-trans false a p false b q true c r Q h k = k
signed-trans false a p true b q u c r Q h k = absurd h
signed-trans true a p t b q false c r Q h k = tt
signed-trans true a p false b q true c r Q h k = absurd k
signed-trans true a p true b q true c r Q h k = leb-through c r b q a p Q k h

pub order_trans : (x y z : Float) → T (total_order x y) → T (total_order y z) → T (total_order x z)
unfolding total_order lt eq is_nan
order_trans x y nan h k = tt
order_trans x nan (inf u) h k = absurd k
order_trans x nan (fin u l g) h k = absurd k
order_trans nan (inf t) (inf u) h k = absurd h
order_trans nan (inf t) (fin u l g) h k = absurd h
order_trans nan (fin t n d) (inf u) h k = absurd h
order_trans nan (fin t n d) (fin u l g) h k = absurd h
order_trans (inf true) (inf t) (inf true) h k = tt
order_trans (inf true) (inf t) (inf false) h k = tt
order_trans (inf true) (inf t) (fin u l g) h k = tt
order_trans (inf true) (fin t n d) (inf true) h k = tt
order_trans (inf true) (fin t n d) (inf false) h k = tt
order_trans (inf true) (fin t n d) (fin u l g) h k = tt
order_trans (inf false) (inf true) (inf u) h k = absurd h
order_trans (inf false) (inf true) (fin u l g) h k = absurd h
order_trans (inf false) (inf false) (inf u) h k = k
order_trans (inf false) (inf false) (fin u l g) h k = k
order_trans (inf false) (fin t n d) (inf u) h k = absurd h
order_trans (inf false) (fin t n d) (fin u l g) h k = absurd h
order_trans (fin s m e) (inf true) (inf u) h k = absurd h
order_trans (fin s m e) (inf true) (fin u l g) h k = absurd h
order_trans (fin s m e) (inf false) (inf true) h k = absurd k
order_trans (fin s m e) (inf false) (inf false) h k = tt
order_trans (fin s m e) (inf false) (fin u l g) h k = absurd k
order_trans (fin s m e) (fin t n d) (inf true) h k = absurd k
order_trans (fin s m e) (fin t n d) (inf false) h k = tt
order_trans (fin s m e) (fin t n d) (fin u l g) h k =
    subst T (sym (order-fin s m e u l g))
    (signed-trans s (m * up e) (down e) t (n * up d) (down d) u (l * up g) (down g) (down_pos d)
    (subst T (order-fin s m e t n d) h) (subst T (order-fin t n d u l g) k))

-- ---- antisymmetric
signed-antisym : (s : Bool) (a : ℕ) (t : Bool) (b : ℕ)
    → T (signed s a t b)
    → T (signed t b s a)
    → (s ≡ t) × (a ≡ b)
signed-antisym false a false b h k = (refl, le_antisymm (leb→le a b h) (leb→le b a k))
signed-antisym false a true b h k = absurd h
signed-antisym true a false b h k = absurd k
signed-antisym true a true b h k = (refl, le_antisymm (leb→le a b k) (leb→le b a h))

pub order-antisym : (x y : Float)
    → T (fits binary64 x)
    → T (fits binary64 y)
    → T (total_order x y)
    → T (total_order y x)
    → x ≡ y
unfolding total_order lt eq is_nan
order-antisym nan nan X Y h k = refl
order-antisym nan (inf t) X Y h k = absurd h
order-antisym nan (fin t n d) X Y h k = absurd h
order-antisym (inf s) nan X Y h k = absurd k
order-antisym (fin s m e) nan X Y h k = absurd k
order-antisym (inf true) (inf true) X Y h k = refl
order-antisym (inf true) (inf false) X Y h k = absurd k
order-antisym (inf false) (inf true) X Y h k = absurd h
order-antisym (inf false) (inf false) X Y h k = refl
order-antisym (inf true) (fin t n d) X Y h k = absurd k
order-antisym (inf false) (fin t n d) X Y h k = absurd h
order-antisym (fin s m e) (inf true) X Y h k = absurd h
order-antisym (fin s m e) (inf false) X Y h k = absurd k
order-antisym (fin s m e) (fin t n d) X Y h k =
    let a =
    signed-antisym s (m * up e * down d) t (n * up d * down e)
    (subst T (order-fin s m e t n d) h)
    (subst T (order-fin t n d s m e) k) in
    let Y' : T (fits binary64 (fin s n d)) =
    subst (λ (b : Bool). T (fits binary64 (fin b n d))) (sym a.0) Y in
    fits-unique binary64 s m e n d X Y' a.1 ∙ ap (λ (b : Bool). fin b n d) a.0

-- ---- it agrees with `lt`
pub order_lt : (x y : Float) → is_nan y ≡ false → eq x y ≡ false → total_order x y ≡ lt x y
unfolding total_order
order_lt x y n h = rw (n, h) (or-false (lt x y))

pub lt_order : (x y : Float) → T (lt x y) → T (total_order x y)
unfolding total_order
lt_order x y h = or_right (is_nan y) _ (or_left (lt x y) _ h)

signed_lt : (s : Bool) (a : ℕ) (t : Bool) (b : ℕ) → T (below s a t b) → T (not (signed t b s a))
signed_lt false a false b h = lt→nleb b a (ltb→lt a b h)
signed_lt false a true b h = absurd h
signed_lt true a false b h = tt
signed_lt true a true b h = lt→nleb a b (ltb→lt b a h)

pub lt-order-not : (x y : Float) → T (lt x y) → T (not (total_order y x))
unfolding total_order lt eq is_nan
lt-order-not nan y h = absurd h
lt-order-not (inf s) nan h = absurd h
lt-order-not (inf true) (inf true) h = absurd h
lt-order-not (inf true) (inf false) h = tt
lt-order-not (inf false) (inf t) h = absurd h
lt-order-not (inf true) (fin t n d) h = tt
lt-order-not (inf false) (fin t n d) h = absurd h
lt-order-not (fin s m e) nan h = absurd h
lt-order-not (fin s m e) (inf true) h = absurd h
lt-order-not (fin s m e) (inf false) h = tt
lt-order-not (fin s m e) (fin t n d) h =
    subst (λ (b : Bool). T (not b)) (sym (order-fin t n d s m e))
    (signed_lt s (m * up e * down d) t (n * up d * down e) h)

-- ---- zeros and NaN: -0.0 and 0.0
pub order-zeros : T (total_order (double 0x8000_0000_0000_0000) (double 0))
    × T (not (total_order (double 0) (double 0x8000_0000_0000_0000)))
unfolding total_order lt eq is_nan of_bits
order-zeros = (tt, tt)

pub order-nan : (x : Float) → T (total_order x nan)
unfolding total_order is_nan
order-nan x = tt

pub order-from-nan : (y : Float) → is_nan y ≡ false → total_order nan y ≡ false
unfolding total_order lt eq
order-from-nan y h = ap (λ (b : Bool). b || false) h

-- ---- total_cmp answers Equal only for the same double
pub cmp-equal : (x y : Float)
    → T (fits binary64 x)
    → T (fits binary64 y)
    → total_cmp x y ≡ Equal
    → x ≡ y
unfolding total_cmp
cmp-equal x y X Y = go (total_order x y) (total_order y x) (order-antisym x y X Y)
  where
    go : (a b : Bool) → (T a → T b → x ≡ y) → cond a (cond b Equal Less) Greater ≡ Equal → x ≡ y
    go true true f h = f tt tt
    go true false f h = absurd (let z : ◌≡◌ {A = ℕ} 0 1 = cc in omega arith)
    go false b f h = absurd (let z : ◌≡◌ {A = ℕ} 0 1 = cc in omega arith)

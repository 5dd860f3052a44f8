-- What `compare` says of two numbers, and the whole number that `nearest` chooses by it: to a
-- fraction `closest` is the nearest one, a tie to the even one. Of the digits below a half
-- `closest` sees only whether they are all 0 (`closest-sees`). Assumes nothing.
use Rattle.std.proofs.Common.{◌≡◌, ℕ, suc, ◌+◌, ◌*◌, ◌/◌, ◌%◌, ◌^◌, ◌<◌, ◌≤◌, not, T, eqb, ◌↔◌, sym, refl, ap, ◌∙◌, subst, ap₂, ⊎_elim, mul_assoc, add_comm, mul-lt-mul_of_pos_right, pow-suc, mul_right_comm, arith, eqb→eq, leb→le, pow_pos, pow-add, shr-shr}
use Prim.Native.Nat.{compare, Ordering}
use lib.Dec.{is_le, compare_is_eq, nleb→lt, eqb_refl}
use lib.Arith.{digits_lt, lt-one, lt_of_le-ne}
use lib.Pow.{high, low, mod-pow-add}
use lib.Ieee.{nearest}
use lib.Ieee.Nearest.{closest}
use Rattle.ieee754_parts.proofs.Tests.{lt-or-ge}

-- ---- what `compare` says

abbrev pub Compared : Ordering → ℕ → ℕ → Type 0
Compared Ordering.lt a b = a < b
Compared Ordering.eq a b = a ≡ b
Compared Ordering.gt a b = b < a

pub compared : (a b : ℕ) → Compared (compare a b) a b
compared a b =
    go (compare a b) (leb→le a b) (nleb→lt a b) (eqb→eq a b)
    (λ (e : a ≡ b). subst (λ (x : ℕ). T (eqb a x)) e (eqb_refl a))
  where
    go : (o : Ordering)
        → (T (is_le o) → a ≤ b)
        → (T (not (is_le o)) → b < a)
        → (T (compare_is_eq o) → a ≡ b)
        → (a ≡ b → T (compare_is_eq o))
        → Compared o a b
    go Ordering.lt h k e n = lt_of_le-ne (h tt) n
    go Ordering.eq h k e n = e tt
    go Ordering.gt h k e n = k tt

-- and it says nothing else
pub compare-is : (a b : ℕ) (o : Ordering) → Compared o a b → compare a b ≡ o
compare-is a b o c = same (compare a b) o (compared a b) c
  where
    same : (r o : Ordering) → Compared r a b → Compared o a b → r ≡ o
    same Ordering.lt Ordering.lt x y = refl
    same Ordering.lt Ordering.eq x y = absurd (omega arith)
    same Ordering.lt Ordering.gt x y = absurd (omega arith)
    same Ordering.eq Ordering.lt x y = absurd (omega arith)
    same Ordering.eq Ordering.eq x y = refl
    same Ordering.eq Ordering.gt x y = absurd (omega arith)
    same Ordering.gt Ordering.lt x y = absurd (omega arith)
    same Ordering.gt Ordering.eq x y = absurd (omega arith)
    same Ordering.gt Ordering.gt x y = refl

pub compare-mul : (a b c : ℕ) → 0 < c → compare (a * c) (b * c) ≡ compare a b
compare-mul a b c C = compare-is (a * c) (b * c) (compare a b) (times (compare a b) (compared a b))
  where
    times : (o : Ordering) → Compared o a b → Compared o (a * c) (b * c)
    times Ordering.lt h = mul-lt-mul_of_pos_right h C
    times Ordering.eq h = ap (λ (x : ℕ). x * c) h
    times Ordering.gt h = mul-lt-mul_of_pos_right h C

-- n / b and m / d are the same, so each is above x / y or below it as the other is
pub compare_same : (t x n b m d : ℕ)
    → 0 < b
    → 0 < d
    → n * d ≡ m * b
    → compare (t * n) (x * b) ≡ compare (t * m) (x * d)
compare_same t x n b m d B D e =
    sym (compare-mul (t * n) (x * b) d D)
    ∙ ap (λ (z : ℕ). compare z (x * b * d))
    (mul_assoc t n d ∙ ap (λ (z : ℕ). t * z) e ∙ sym (mul_assoc t m b))
    ∙ ap (λ (z : ℕ). compare (t * m * b) z) (mul_right_comm x b d)
    ∙ compare-mul (t * m) (x * d) b B

-- ---- `nearest` by the order of twice the remainder and the divisor

pub nearest-below : (q a b : ℕ) → a < b → nearest q (compare a b) ≡ q
nearest-below q a b h = ap (nearest q) (compare-is a b Ordering.lt h)

pub nearest-tie : (q a b : ℕ) → a ≡ b → nearest q (compare a b) ≡ q + q % 2
nearest-tie q a b h = ap (nearest q) (compare-is a b Ordering.eq h)

pub nearest-above : (q a b : ℕ) → b < a → nearest q (compare a b) ≡ suc q
nearest-above q a b h = ap (nearest q) (compare-is a b Ordering.gt h)

-- ---- a fraction of 2 ^ (i + 1 + g), with h and r its digits from 2 ^ g on and below
abbrev rest : ℕ → ℕ → ℕ → ℕ → ℕ
rest i g h r = (h % 2 ^ suc i * 2 ^ g + r) * 2

abbrev unit : ℕ → ℕ → ℕ
unit i g = 2 ^ i * 2 ^ g * 2

block : (i g h r : ℕ)
    → r < 2 ^ g
    → closest (h * 2 ^ g + r) (2 ^ (suc i + g))
    ≡ nearest (h / 2 ^ suc i) (compare (rest i g h r) (unit i g))
block i g h r l =
    let n = h * 2 ^ g + r in
    let up : n / 2 ^ (suc i + g) ≡ h / 2 ^ suc i =
    ap (λ (e : ℕ). n / 2 ^ e) (add_comm (suc i) g)
    ∙ sym (shr-shr n g (suc i))
    ∙ ap (λ (x : ℕ). x / 2 ^ suc i) (high h g l) in
    let down : n % 2 ^ (suc i + g) ≡ h % 2 ^ suc i * 2 ^ g + r =
    mod-pow-add n (suc i) g
    ∙ ap₂ (λ (x y : ℕ). x % 2 ^ suc i * 2 ^ g + y) (high h g l) (low h g l) in
    let all : 2 ^ (suc i + g) ≡ unit i g =
    pow-add 2 (suc i) g
    ∙ ap (λ (x : ℕ). x * 2 ^ g) (pow-suc 2 i)
    ∙ mul_right_comm (2 ^ i) 2 (2 ^ g) in
    ap₂ (λ (x y : ℕ). nearest x (compare (y * 2) (2 ^ (suc i + g)))) up down
    ∙ ap (λ (x : ℕ). nearest (h / 2 ^ suc i) (compare (rest i g h r) x)) all

-- what `closest` does with it goes by h, and by whether r is 0
below : (i g h r : ℕ)
    → r < 2 ^ g
    → h % 2 ^ suc i < 2 ^ i
    → closest (h * 2 ^ g + r) (2 ^ (suc i + g)) ≡ h / 2 ^ suc i
below i g h r l c =
    block i g h r l
    ∙ nearest-below (h / 2 ^ suc i) (rest i g h r) (unit i g) (omega (arith, digits_lt c l))

tie : (i g h r : ℕ)
    → r < 2 ^ g
    → h % 2 ^ suc i ≡ 2 ^ i
    → r ≡ 0
    → closest (h * 2 ^ g + r) (2 ^ (suc i + g)) ≡ h / 2 ^ suc i + h / 2 ^ suc i % 2
tie i g h r l c z =
    block i g h r l
    ∙ nearest-tie (h / 2 ^ suc i) (rest i g h r) (unit i g)
    (omega (arith, ap (λ (x : ℕ). x * 2 ^ g) c))

above : (i g h r : ℕ)
    → r < 2 ^ g
    → 2 ^ i * 2 ^ g < h % 2 ^ suc i * 2 ^ g + r
    → closest (h * 2 ^ g + r) (2 ^ (suc i + g)) ≡ suc (h / 2 ^ suc i)
above i g h r l c =
    block i g h r l ∙ nearest-above (h / 2 ^ suc i) (rest i g h r) (unit i g) (omega arith)

pub closest-sees : (i g h r t : ℕ)
    → r < 2 ^ g
    → t < 2 ^ g
    → ((r ≡ 0) ↔ (t ≡ 0))
    → closest (h * 2 ^ g + r) (2 ^ (suc i + g)) ≡ closest (h * 2 ^ g + t) (2 ^ (suc i + g))
closest-sees i g h r t l m z =
    let c = h % 2 ^ suc i in
    ⊎_elim (λ (x : c < 2 ^ i). below i g h r l x ∙ sym (below i g h t m x))
    (λ (x : 2 ^ i ≤ c).
    ⊎_elim (λ (y : 2 ^ i < c). above i g h r l (over y r) ∙ sym (above i g h t m (over y t)))
    (λ (y : c ≤ 2 ^ i).
    let e : c ≡ 2 ^ i = omega arith in
    let f : c * 2 ^ g ≡ 2 ^ i * 2 ^ g = ap (λ (u : ℕ). u * 2 ^ g) e in
    ⊎_elim
    (λ (w : r < 1). let r0 = lt-one w in tie i g h r l e r0 ∙ sym (tie i g h t m e (z.0 r0)))
    (λ (w : 1 ≤ r).
    above i g h r l (omega arith)
    ∙ sym (above i g h t m (nonzero f (λ (t0 : t ≡ 0). let r0 = z.1 t0 in omega arith))))
    (lt-or-ge r 1))
    (lt-or-ge (2 ^ i) c))
    (lt-or-ge c (2 ^ i))
  where
    over : 2 ^ i < h % 2 ^ suc i → (x : ℕ) → 2 ^ i * 2 ^ g < h % 2 ^ suc i * 2 ^ g + x
    over y x = let k = mul-lt-mul_of_pos_right y (pow_pos g) in omega arith

    nonzero : h % 2 ^ suc i * 2 ^ g ≡ 2 ^ i * 2 ^ g
        → (t ≡ 0 → ⊥)
        → 2 ^ i * 2 ^ g < h % 2 ^ suc i * 2 ^ g + t
    nonzero f k = omega arith

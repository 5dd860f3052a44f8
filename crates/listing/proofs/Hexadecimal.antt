-- Hexadecimal digits, put one behind the other from the first to the last. Assumes nothing.
use Rattle.std.proofs.Common.{◌≡◌, ℕ, ◌+◌, ◌-◌, ◌*◌, ◌/◌, ◌%◌, ◌^◌, ◌<◌, List, [], ◌∷◌, ◌++◌, refl, sym, ap, ◌∙◌, add-one, append_assoc, arith}
use Rattle.std.proofs.Math.Nat.{div-div-eq-div-mul}
use lib.Pow.{pow-add}
use Rattle.listing.specs.Digits.{glyph, hexadecimal}

-- a digit more of those that a word begins with
next_digit : (k n : ℕ)
    → k < 16
    → hexadecimal (k + 1) (n / 2 ^ (60 - 4 * k))
    ≡ hexadecimal k (n / 2 ^ (64 - 4 * k)) ++ (glyph (n / 2 ^ (60 - 4 * k) % 16) ∷ [])
unfolding hexadecimal
next_digit k n h =
    let further : 2 ^ (60 - 4 * k) * 16 ≡ 2 ^ (64 - 4 * k) =
    sym (pow-add 2 (60 - 4 * k) 4) ∙ ap (λ (j : ℕ). 2 ^ j) (omega arith) in
    let rest : n / 2 ^ (60 - 4 * k) / 16 ≡ n / 2 ^ (64 - 4 * k) =
    div-div-eq-div-mul n (2 ^ (60 - 4 * k)) 16 ∙ ap (λ (m : ℕ). n / m) further in
    rw (add-one, rest) refl

-- it is put behind those
pub one_more : (l out : List ℕ) (k n byte : ℕ)
    → k < 16
    → out ≡ l ++ hexadecimal k (n / 2 ^ (64 - 4 * k))
    → byte ≡ glyph (n / 2 ^ (60 - 4 * k) % 16)
    → out ++ (byte ∷ []) ≡ l ++ hexadecimal (k + 1) (n / 2 ^ (64 - 4 * (k + 1)))
one_more l out k n byte h placed digit =
    let first = hexadecimal k (n / 2 ^ (64 - 4 * k)) in
    let power : 64 - 4 * (k + 1) ≡ 60 - 4 * k = omega arith in
    rw (power, next_digit k n h, placed, digit) (append_assoc l first _)

-- `shift_left` meets its contract: a word of any width moved up into two, at 64. Assumes nothing.
use Rattle.std.proofs.Common.{◌≡◌, ℕ, ◌+◌, ◌-◌, ◌*◌, ◌/◌, ◌%◌, ◌^◌, sym, ap, ◌∙◌, subst, ap₂, mul_assoc, add-mul, arith, pow-add}
use lib.Pow.{split}
use Rattle.ieee754_parts.proofs.Sizes.{moved}
use Rattle.ieee754_parts.proofs.wide.shift_left.Goals as goal

-- j is the number of places, and i of those that stay in the lower word
raised : (i j n : ℕ) → n / 2 ^ i * 2 ^ (i + j) + n * 2 ^ j % 2 ^ (i + j) ≡ n * 2 ^ j
raised i j n =
    ap₂ ◌+◌
    (ap (λ (x : ℕ). n / 2 ^ i * x) (pow-add 2 i j) ∙ sym (mul_assoc (n / 2 ^ i) (2 ^ i) (2 ^ j)))
    (moved i j n)
    ∙ sym (add-mul (n / 2 ^ i * 2 ^ i) (n % 2 ^ i) (2 ^ j))
    ∙ ap (λ (x : ℕ). x * 2 ^ j) (split n i)

pub returns : goal.returns
returns c =
    let k = c.args.k in
    let w = c.args.w in
    let whole : 64 - k + k ≡ 64 = omega (arith, c.requires.1) in
    subst (λ (x : ℕ). w / 2 ^ (64 - k) * 2 ^ x + w * 2 ^ k % 2 ^ x ≡ w * 2 ^ k)
    whole (raised (64 - k) k w)

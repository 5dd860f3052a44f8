-- `jam` meets its contract. What is shifted right and back left is the number exactly if no digit
-- was lost. Assumes nothing.
use Rattle.std.proofs.Common.{◌≡◌, ℕ, ◌*◌, ◌/◌, ◌%◌, ◌^◌, ◌<◌, ◌≤◌, min, sym, ◌∙◌, lt_of_lt_of_le, lt_of_le_of_lt, mod-eq_of_lt, div-mul-le_self, arith, pow_mono}
use Rattle.ieee754_parts.specs.Jam.{jam}
use Rattle.ieee754_parts.proofs.Jam.{jam-kept, jam-lost, jam-small}
use Rattle.ieee754_parts.proofs.wide.jam.Goals as goal

back : (k w : ℕ) → w < 2 ^ 64 → (w / 2 ^ k * 2 ^ k) % 2 ^ 64 ≡ w / 2 ^ k * 2 ^ k
back k w h = mod-eq_of_lt (lt_of_le_of_lt (div-mul-le_self w (2 ^ k)) h)

marked : (k w : ℕ) → w < 2 ^ 64 → 64 ≤ k → jam k w ≡ min 1 w
marked k w h l = jam-small k w (lt_of_lt_of_le h (pow_mono l))

pub returns-then-kept-k : goal.returns-then-kept-k
returns-then-kept-k c =
    jam-kept c.args.k c.args.w
    (sym (back c.args.k c.args.w c.ranges.w.fits) ∙ c.if-kept-k.true)

pub returns-else-kept-k : goal.returns-else-kept-k
returns-else-kept-k c =
    jam-lost c.args.k c.args.w
    (λ e. c.if-kept-k.false (back c.args.k c.args.w c.ranges.w.fits ∙ e))

pub returns-then-w-eq0 : goal.returns-then-w-eq0
returns-then-w-eq0 c =
    let e : c.args.w ≡ 0 = c.if-w-eq0.true in
    omega (arith, marked c.args.k c.args.w c.ranges.w.fits c.if-k-lt64.false)

pub returns-else-w-eq0 : goal.returns-else-w-eq0
returns-else-w-eq0 c =
    let e : c.args.w ≡ 0 → ⊥ = c.if-w-eq0.false in
    omega (arith, marked c.args.k c.args.w c.ranges.w.fits c.if-k-lt64.false)

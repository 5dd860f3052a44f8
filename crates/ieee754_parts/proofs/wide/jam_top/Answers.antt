-- `jam_top` meets its contract. Assumes nothing.
use Rattle.std.proofs.Common.{◌≡◌, ℕ, ◌+◌, ◌*◌, ◌/◌, ◌^◌, ◌<◌, sym, ap, ◌∙◌, arith, rules}
use lib.Bits.{bit_or}
use lib.Pow.{high}
use Rattle.ieee754_parts.specs.Jam.{jam}
use Rattle.ieee754_parts.proofs.Jam.{jam-kept, jam-lost}
use Rattle.ieee754_parts.proofs.wide.jam_top.Goals as goal

none-lost : (w h l : ℕ) → l < 2 ^ w → l ≡ 0 → h ≡ jam w (h * 2 ^ w + l)
none-lost w h l b e =
    sym (high h w b)
    ∙ jam-kept w (h * 2 ^ w + l) (ap (λ (x : ℕ). x * 2 ^ w) (high h w b) ∙ omega arith)

some-lost : (w h l : ℕ) → l < 2 ^ w → (l ≡ 0 → ⊥) → bit_or h 1 ≡ jam w (h * 2 ^ w + l)
some-lost w h l b n =
    let e : (h * 2 ^ w + l) / 2 ^ w * 2 ^ w ≡ h * 2 ^ w = ap (λ (x : ℕ). x * 2 ^ w) (high h w b) in
    ap (λ (x : ℕ). bit_or x 1) (sym (high h w b)) ∙ jam-lost w (h * 2 ^ w + l) (λ f. n (omega arith))

pub returns-then-v-eq0 : goal.returns-then-v-eq0
returns-then-v-eq0 c =
    let v = c.args.v in
    none-lost 64 v.hi v.lo (search rules) c.if-v-eq0.true

pub returns-else-v-eq0 : goal.returns-else-v-eq0
returns-else-v-eq0 c =
    let v = c.args.v in
    some-lost 64 v.hi v.lo (search rules) c.if-v-eq0.false

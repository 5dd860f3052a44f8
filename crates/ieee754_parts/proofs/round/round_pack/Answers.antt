-- `round_pack` meets its contract: a word is rounded to 53 digits (Rounding.antt). Below 2 ^ 1081
-- what is cut off first lies below half of the smallest double. Assumes nothing.
use Rattle.std.proofs.Common.{◌≡◌, ℕ, ◌+◌, ◌-◌, ◌*◌, ◌^◌, ◌<◌, ◌≤◌, Bool, sym, ap, ◌∙◌, subst, le_of_lt, sub-add_cancel, arith}
use lib.Ieee.{binary64, units}
use lib.Ieee.Nearest.{closest}
use Rattle.ieee754_parts.specs.Jam.{jam}
use Rattle.ieee754_parts.specs.Rounded.{rounded}
use Rattle.ieee754_parts.proofs.Jam.{jam-no-longer}
use Rattle.ieee754_parts.proofs.Rounding.{Kept, round-jam, round-word, closest-le}
use Rattle.ieee754_parts.proofs.Rounding.{closest-ge}
use Rattle.ieee754_parts.proofs.round.round_pack.Goals as goal

-- ---- the significand q, rounded from w
short : (w q : ℕ) → w < 2 ^ 64 → q ≡ closest w (2 ^ 11) → q ≤ 2 ^ 53
short w q l e = subst (λ (x : ℕ). x ≤ 2 ^ 53) (sym e) (closest-le w l)

full : (w q : ℕ) → 2 ^ 63 ≤ w → q ≡ closest w (2 ^ 11) → 2 ^ 52 ≤ q
full w q g e = subst (λ (x : ℕ). 2 ^ 52 ≤ x) (sym e) (closest-ge w g)

packed : (s : Bool) (w k q : ℕ)
    → w < 2 ^ 64
    → (0 < k → 2 ^ 63 ≤ w)
    → q ≡ closest w (2 ^ 11)
    → units binary64 s q k ≡ rounded s (w * 2 ^ (k + 1081))
unfolding rounded
packed s w k q l b e = ap (λ (x : ℕ). units binary64 s x k) e ∙ sym (round-word s w k l b)

-- ---- a word cut short by 1081 - e digits, j
cut-lt : (w e j : ℕ) → w < 2 ^ 64 → j ≡ jam (1081 - e) w → j < 2 ^ 64
cut-lt w e j l h = subst (λ (x : ℕ). x < 2 ^ 64) (sym h) (jam-no-longer (1081 - e) 63 w l)

cut-alike : (s : Bool) (w e j : ℕ)
    → e < 1081
    → j ≡ jam (1081 - e) w
    → rounded s (j * 2 ^ (0 + 1081)) ≡ rounded s (w * 2 ^ e)
unfolding rounded
cut-alike s w e j h i =
    ap (rounded s)
    (ap (λ (x : ℕ). x * 2 ^ 1081) i
    ∙ ap (λ (x : ℕ). jam (1081 - e) w * 2 ^ x) (sym (sub-add_cancel (le_of_lt h))))
    ∙ round-jam binary64 s 1092 e (1081 - e) w (Kept.fine (omega arith))

raised : (e : ℕ) → 0 < e - 1081 → 1081 < e
raised e h = omega arith

pub returns-then-exp-lt1081 : goal.returns-then-exp-lt1081
returns-then-exp-lt1081 c =
    let j = c.jam in
    let l = cut-lt c.args.w c.args.exp j.result c.ranges.w.fits j.ensures in
    c.pack.ensures
    ∙ packed c.args.negative j.result 0 c.nearest.result l
    (λ h. absurd (omega (arith, h))) c.nearest.ensures
    ∙ cut-alike c.args.negative c.args.w c.args.exp j.result c.if-exp-lt1081.true
    j.ensures

pub returns-else-exp-lt1081 : goal.returns-else-exp-lt1081
returns-else-exp-lt1081 c =
    c.pack-else-exp-lt1081.ensures
    ∙ packed c.args.negative c.args.w (c.args.exp - 1081) c.nearest-else-exp-lt1081.result
    c.ranges.w.fits (λ h. c.requires.1 (raised c.args.exp h)) c.nearest-else-exp-lt1081.ensures
    ∙ ap (λ (x : ℕ). rounded c.args.negative (c.args.w * 2 ^ x))
    (sub-add_cancel c.if-exp-lt1081.false)

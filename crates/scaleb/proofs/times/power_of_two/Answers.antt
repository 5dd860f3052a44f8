-- `power_of_two` meets its contract: 2 ^ 52, moved up by the exponent that the pattern has, is
-- written with the significand 1. Assumes nothing.
use Prim.Native.Nat.{ℕ, ◌+◌, ◌*◌, ◌^◌, ◌≤◌, ◌<◌}
use mathlib.Core.Path.{◌≡◌, refl, sym, ap, ◌∙◌}
use mathlib.Core.Bool.{false}
use native.Mathlib.Nat.{lt_of_le_of_lt, le_of_eq}
use native.Mathlib.Omega.{arith}
use lib.IntN.{ℤ, pos, negsuc, ◌+ℤ◌, +ℤ_comm, +ℤ-neg_ℤ_cancel}
use lib.Pow.{pow-add, pow-lt}
use lib.Ieee.{fin, binary64, minus, odd, units}
use Rattle.ieee754_laws.proofs.Powers.{minus-add}
use Rattle.ieee754_laws.proofs.RoundScale.{units-odd}
use Rattle.scaleb.proofs.times.power_of_two.Goals as goal

leading : (j : ℕ) → odd 54 false (2 ^ 52) j 1074 ≡ fin false 1 (minus (j + 52) 1074)
unfolding odd
leading j = refl

module _ (k : ℤ) (u : ℕ) (most : u ≤ 128) (counts : pos u ≡ k +ℤ pos 64) where
  exponent : minus (u + 958 + 52) 1074 ≡ k
  exponent =
      let e : u + 958 + 52 ≡ 1010 + u = omega arith in
      ap (λ (n : ℕ). minus n 1074) e
      ∙ minus-add 1010 u 1074
      ∙ ap (λ (z : ℤ). negsuc 63 +ℤ z) counts
      ∙ +ℤ_comm (negsuc 63) (k +ℤ pos 64)
      ∙ +ℤ-neg_ℤ_cancel k (pos 64)

  power : units binary64 false (2 ^ 52) (u + 958) ≡ fin false 1 k
  power =
      let under : 2 ^ 52 * 2 ^ (u + 958) < 2 ^ 2098 =
      lt_of_le_of_lt (le_of_eq (sym (pow-add 2 52 (u + 958)))) (pow-lt {j = 2098} (omega arith)) in
      units-odd false (2 ^ 52) (u + 958) under
      ∙ leading (u + 958)
      ∙ ap (λ (z : ℤ). fin false 1 z) exponent

pub returns : goal.returns
returns c =
    let counted = c.from_lowest in
    c.pack_finite.ensures
    ∙ power c.args.reach.k counted.result counted.ensures.few counted.ensures.counts

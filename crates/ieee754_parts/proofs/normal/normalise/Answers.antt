-- `normalise` meets its contract: a significand of 53 digits stays, and a subnormal number's is
-- moved up by its leading zeros (Sizes.antt). Assumes nothing.
use Rattle.std.proofs.Common.{◌≡◌, ℕ, ◌+◌, ◌-◌, ◌*◌, ◌%◌, ◌^◌, ◌<◌, ◌≤◌, sym, refl, ap, ◌∙◌, subst, ⊎_elim, lt_trans, mod-eq_of_lt, not-le_of_lt, arith, lit<, lit≤, rules}
use lib.Arith.{lt-one}
use lib.Count.{count_leading_zeros}
use Rattle.ieee754_parts.proofs.Tests.{lt-or-ge}
use Rattle.ieee754_parts.proofs.Sizes.{shl-shl, zeros-lt, zeros-ge, shifted-ge, shifted-lt}
use Rattle.ieee754_parts.proofs.normal.normalise.Goals as goal

raised : (m e i j : ℕ) → i + j ≡ e + 52 → m * 2 ^ i * 2 ^ j ≡ m * 2 ^ e * 2 ^ 52
raised m e i j h = shl-shl m i j (e + 52) h ∙ sym (shl-shl m e 52 (e + 52) refl)

-- ---- a subnormal number n
module _ (n : ℕ) (some : 0 < n) (small : n < 2 ^ 52) where
  zeros : (count_leading_zeros 64 n ≤ 63) × (12 ≤ count_leading_zeros 64 n)
  zeros =
      omega (arith, zeros-lt 64 52 n some small (lit≤ tt), zeros-ge 64 52 n some small (lit≤ tt))

  moved : let m = n * 2 ^ (count_leading_zeros 64 n - 11) in (2 ^ 52 ≤ m) × (m < 2 ^ 53)
  moved =
      let short : n < 2 ^ 53 = lt_trans small (lit< tt) in
      let s = count_leading_zeros 64 n - 11 in
      let e : s + 11 ≡ count_leading_zeros 64 n = omega (arith, zeros) in
      (shifted-ge 64 53 n some short (lit≤ tt) s e, shifted-lt 64 53 n some short (lit≤ tt) s e)

  -- in a word no digit is lost
  same : let m = n * 2 ^ (count_leading_zeros 64 n - 11) in m % 2 ^ 64 ≡ m
  same = mod-eq_of_lt (lt_trans moved.1 (lit< tt))

-- its exponent is the lowest
lowest : (n e : ℕ) → n < 2 ^ 52 → (0 < e → 2 ^ 52 ≤ n) → e ≡ 0
lowest n e l f = ⊎_elim lt-one (λ (g : 1 ≤ e). absurd (not-le_of_lt l (f g))) (lt-or-ge e 1)

-- ---- the function
pub overflow_sub-result : goal.overflow_sub-result
overflow_sub-result c =
    omega (arith, zeros c.args.sig c.requires.1 c.if-sig-ge-LEADING.false)

pub returns-then-sig-ge-LEADING : goal.returns-then-sig-ge-LEADING
returns-then-sig-ge-LEADING c =
    let m = c.args.sig in
    let e = c.args.exp in
    record {
      low = c.if-sig-ge-LEADING.true;
      high = c.requires.0.short;
      within = search rules;
      same = sym (shl-shl m e 52 (e + 52) refl);
    }

pub returns-else-sig-ge-LEADING : goal.returns-else-sig-ge-LEADING
returns-else-sig-ge-LEADING c =
    let n = c.args.sig in
    let z = count_leading_zeros 64 n in
    let w = same n c.requires.1 c.if-sig-ge-LEADING.false in
    let m = moved n c.requires.1 c.if-sig-ge-LEADING.false in
    let k = zeros n c.requires.1 c.if-sig-ge-LEADING.false in
    let e : c.args.exp ≡ 0 = lowest n c.args.exp c.if-sig-ge-LEADING.false c.requires.0.full in
    rw c.from.ensures record {
      low = subst (λ (x : ℕ). 2 ^ 52 ≤ x) (sym w) m.0;
      high = subst (λ (x : ℕ). x < 2 ^ 53) (sym w) m.1;
      within = omega arith;
      same =
          ap (λ (x : ℕ). x * 2 ^ (63 - z)) w
          ∙ raised n c.args.exp (z - 11) (63 - z) (omega arith);
    }

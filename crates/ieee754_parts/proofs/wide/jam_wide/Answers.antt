-- `jam_wide` meets its contract: a cut of less than a word, and a cut of a word and then of the
-- rest. Assumes nothing.
use Rattle.std.proofs.Common.{◌≡◌, ℕ, ◌+◌, ◌-◌, ◌*◌, ◌/◌, ◌%◌, ◌^◌, ◌<◌, ◌≤◌, sym, ap, ◌∙◌, subst, add-sub_of_le, arith, w64, Fits, rules}
use mir.Facts.{Fits-bits}
use Rattle.ieee754_parts.specs.Jam.{jam}
use Rattle.ieee754_parts.proofs.Jam.{jam_none, jam-jam, jam-words, jam-word-lt}
use Rattle.ieee754_parts.proofs.wide.jam_wide.Goals as goal

whole : (k n : ℕ) → k ≡ 0 → n ≡ jam k n
whole k n e = sym (ap (λ (x : ℕ). jam x n) e ∙ jam_none n)

-- r is the low word cut short
module _ (k h l r : ℕ) (b : k < 64) (e : r ≡ jam k l) where
  low_fits : l < 2 ^ 64 → Fits w64 (h * 2 ^ (64 - k) % 2 ^ 64 + r)
  low_fits c =
      Fits-bits 64 tt (subst (λ (x : ℕ). h * 2 ^ (64 - k) % 2 ^ 64 + x < 2 ^ 64)
      (sym e) (jam-word-lt 64 (64 - k) k (omega arith) (omega arith) h l c))

  words : h / 2 ^ k * 2 ^ 64 + (h * 2 ^ (64 - k) % 2 ^ 64 + r) ≡ jam k (h * 2 ^ 64 + l)
  words =
      ap (λ (x : ℕ). h / 2 ^ k * 2 ^ 64 + (h * 2 ^ (64 - k) % 2 ^ 64 + x)) e
      ∙ jam-words 64 (64 - k) k (omega arith) (omega arith) h l

-- r is the high word t, with the mark of the low one, cut short
top : (k n t r : ℕ) → 64 ≤ k → t ≡ jam 64 n → r ≡ jam (k - 64) t → 0 * 2 ^ 64 + r ≡ jam k n
top k n t r b d e =
    omega (
      arith,
      e,
      ap (jam (k - 64)) d,
      jam-jam 64 (k - 64) n,
      ap (λ (x : ℕ). jam x n) (add-sub_of_le b),
    )

pub overflow_add-result : goal.overflow_add-result
overflow_add-result c =
    low_fits c.args.k c.args.v.hi c.args.v.lo c.jam.result c.if-k-lt64.true
    c.jam.ensures (search rules)

pub returns-then-k-eq0 : goal.returns-then-k-eq0
returns-then-k-eq0 c =
    let v = c.args.v in
    whole c.args.k (v.hi * 2 ^ 64 + v.lo) c.if-k-eq0.true

pub returns-then-k-lt64 : goal.returns-then-k-lt64
returns-then-k-lt64 c =
    words c.args.k c.args.v.hi c.args.v.lo c.jam.result c.if-k-lt64.true
    c.jam.ensures

pub returns-else-k-lt64 : goal.returns-else-k-lt64
returns-else-k-lt64 c =
    top c.args.k (c.args.v.hi * 2 ^ 64 + c.args.v.lo) c.jam_top.result
    c.jam-else-k-lt64.result c.if-k-lt64.false c.jam_top.ensures c.jam-else-k-lt64.ensures

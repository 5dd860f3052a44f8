-- `settle` meets its contract: the word is moved up until it has 63 digits, and what is nearest to
-- both ends of the range is what all of it rounds to (Rounding.antt). Assumes nothing.
use Rattle.std.proofs.Common.{◌≡◌, ℕ, ◌+◌, ◌-◌, ◌*◌, ◌%◌, ◌^◌, ◌<◌, ◌≤◌, sym, ap, ◌∙◌, subst, le_trans, lt_trans, le_of_eq, mod-eq_of_lt, add-mul, arith, lit<, lit≤, pow_mono, ltb, ltb-true, ◌&&◌, true}
use lib.Count.{count_leading_zeros}
use Rattle.ieee754_parts.specs.Leading.{Settles}
use Rattle.ieee754_parts.specs.Rounded.{rounded}
use Rattle.ieee754_parts.proofs.Tests.{both}
use Rattle.ieee754_parts.proofs.Rounding.{round-between}
use Rattle.ieee754_parts.proofs.Sizes.{shl-shl, zeros-ge, zeros-le, shifted-ge, shifted-lt}
use Rattle.ieee754_parts.proofs.leading.settle.Goals as goal

-- ---- a word of 61 to 63 digits, moved up until it has 63

abbrev up : ℕ → ℕ
up low = count_leading_zeros 64 low - 1

module _ (low : ℕ) (least : 2 ^ 60 ≤ low) (short : low < 2 ^ 63) where
  some : 0 < low
  some = omega arith

  zeros : (1 ≤ count_leading_zeros 64 low) × (count_leading_zeros 64 low ≤ 3)
  zeros = (
    zeros-ge 64 63 low some short (lit≤ tt),
    omega (arith, zeros-le 64 63 low some short (lit≤ tt) 60 least),
  )

  moved : (2 ^ 62 ≤ low * 2 ^ up low) × (low * 2 ^ up low < 2 ^ 63)
  moved =
      let e : up low + 1 ≡ count_leading_zeros 64 low = omega (arith, zeros) in (
        shifted-ge 64 63 low some short (lit≤ tt) (up low) e,
        shifted-lt 64 63 low some short (lit≤ tt) (up low) e,
      )

  -- in a word no digit is lost
  same : low * 2 ^ up low % 2 ^ 64 ≡ low * 2 ^ up low
  same = mod-eq_of_lt (lt_trans moved.1 (lit< tt))

  margin : 3 * 2 ^ up low < 2 ^ 9
  margin = let l : 2 ^ up low ≤ 2 ^ 2 = pow_mono {j = 2} (omega (arith, zeros)) in omega arith

  margin-same : 3 * 2 ^ up low % 2 ^ 64 ≡ 3 * 2 ^ up low
  margin-same = mod-eq_of_lt (lt_trans margin (lit< tt))

module _ (sum exp q : ℕ) (least : 2 ^ 60 < sum) (short : sum < 2 ^ 63) (high : 1083 < exp)
    (top : exp < 4900) where
  abbrev w : ℕ
  w = (sum - 1) * 2 ^ up (sum - 1)

  abbrev m : ℕ
  m = 3 * 2 ^ up (sum - 1)

  settles : (q < 2 ^ 53) × (q * 2 ^ 10 < w + 2 ^ 9) × (w + m < q * 2 ^ 10 + 2 ^ 9)
      → Settles sum exp record { sig = q; exp = exp - up (sum - 1) - 1082 }
  unfolding rounded
  settles h =
      let low = sum - 1 in
      let n = up low in
      let k = exp - n - 1082 in
      let z = zeros low (omega arith) (omega arith) in
      let full = (moved low (omega arith) (omega arith)).0 in
      let e : n + (k + 1082) ≡ exp = omega arith in
      let all : low * 2 ^ n + 3 * 2 ^ n ≡ (sum + 2) * 2 ^ n =
      sym (add-mul low 3 (2 ^ n)) ∙ ap (λ (x : ℕ). x * 2 ^ n) (omega arith) in
      record {
        some = omega arith;
        word = short;
        full = omega arith;
        short = h.0;
        within = omega arith;
        alike = λ s v from to.
            round-between s w m q k v full h.0 h.1 h.2
            (le_trans (le_of_eq (shl-shl low n (k + 1082) exp e)) from)
            (le_trans to (le_of_eq
            (sym (ap (λ (x : ℕ). x * 2 ^ (k + 1082)) all ∙ shl-shl (sum + 2) n (k + 1082) exp e))));
      }

-- ---- the function
tests : {s e : ℕ} → ltb (2 ^ 60) s && ltb s (2 ^ 63) && ltb 1083 e ≡ true
    → (2 ^ 60 < s) × (s < 2 ^ 63) × (1083 < e)
tests h =
    let f = both h in
    let g = both f.0 in (ltb-true _ _ g.0, ltb-true _ _ g.1, ltb-true _ _ f.1)

count : (sum : ℕ)
    → 2 ^ 60 < sum
    → sum < 2 ^ 63
    → (1 ≤ count_leading_zeros 64 (sum - 1)) × (count_leading_zeros 64 (sum - 1) ≤ 3)
count sum l h = zeros (sum - 1) (omega arith) (omega arith)

pub overflow_sub-n : goal.overflow_sub-n
overflow_sub-n c = let t = tests {s = c.args.sum} {e = c.args.exp} c.if-sum-exp.true in omega (arith, count c.args.sum t.0 t.1, c.from-n.ensures)

pub nearest_to_all-requires : goal.nearest_to_all-requires
nearest_to_all-requires c =
    let t = tests {s = c.args.sum} {e = c.args.exp} c.if-sum-exp.true in
    let low = c.args.sum - 1 in
    let a : 2 ^ 60 ≤ low = omega (arith, t.0) in
    let b : low < 2 ^ 63 = omega (arith, t.1) in
    let e : c.from-n.result - 1 ≡ up low = ap (λ (x : ℕ). x - 1) c.from-n.ensures in
    rw e (
      subst (λ (x : ℕ). x < 2 ^ 63) (sym (same low a b)) (moved low a b).1,
      subst (λ (x : ℕ). x < 2 ^ 9) (sym (margin-same low a b)) (margin low a b),
    )

pub overflow_sub-result-then-sum-exp : goal.overflow_sub-result-then-sum-exp
overflow_sub-result-then-sum-exp c = let t = tests {s = c.args.sum} {e = c.args.exp} c.if-sum-exp.true in omega (arith, t, count c.args.sum t.0 t.1, c.from-n.ensures)

pub returns-in_ok-sig : goal.returns-in_ok-sig
returns-in_ok-sig c =
    let t = tests {s = c.args.sum} {e = c.args.exp} c.if-sum-exp.true in
    let low = c.args.sum - 1 in
    let a : 2 ^ 60 ≤ low = omega (arith, t.0) in
    let b : low < 2 ^ 63 = omega (arith, t.1) in
    let i : c.from-n.result - 1 ≡ up low = ap (λ (x : ℕ). x - 1) c.from-n.ensures in
    let e : (x y q : ℕ) → Type 0 =
    λ x y q. (q < 2 ^ 53) × (q * 2 ^ 10 < x + 2 ^ 9) × (x + y < q * 2 ^ 10 + 2 ^ 9) in
    let r : e (low * 2 ^ up low % 2 ^ 64) (3 * 2 ^ up low % 2 ^ 64) c.in_ok-sig.sig =
    subst (λ (n : ℕ). e (low * 2 ^ n % 2 ^ 64) (3 * 2 ^ n % 2 ^ 64) c.in_ok-sig.sig) i c.in_ok-sig.ensures in
    subst (λ (n : ℕ). Settles c.args.sum c.args.exp record { sig = c.in_ok-sig.sig; exp = c.args.exp - n - 1082 }) (sym i)
    (settles c.args.sum c.args.exp c.in_ok-sig.sig t.0 t.1 t.2 c.requires
    (subst (λ (x : ℕ). e x (3 * 2 ^ up low) c.in_ok-sig.sig)
    (same low a b)
    (subst (λ (y : ℕ). e (low * 2 ^ up low % 2 ^ 64) y c.in_ok-sig.sig)
    (margin-same low a b) r)))

-- A double put together: the bit pattern of q * 2 ^ k smallest values of a format is k * hid + q
-- (`units-finite`), unless that is past the patterns of the finite values, and then the value is an
-- infinity (`units-infinite`). The leading digit of q adds one to the exponent's field, and so does
-- a q of 2 ^ prec, which has one digit more than the format keeps. Assumes nothing.
use Rattle.std.proofs.Common.{◌≡◌, ℕ, zero, suc, ◌+◌, ◌-◌, ◌*◌, ◌/◌, ◌^◌, ◌<◌, ◌≤◌, Bool, cond, ℤ, pos, sym, ap, ◌∙◌, subst, ⊎_elim, le_trans, le_of_eq, le_refl, lt_of_lt_of_le, lt_of_le_of_lt, add_assoc, mul-le-mul_right, suc-mul, lt_of_mul-lt-mul_right, eq-or-lt_of_le, le_of_mul-le-mul_right, mul-div_cancel, arith, pow_pos, pow_mono, pow-add, shl_lt, le-ltb, lt-ltb}
use native.Mathlib.Nat.{two-pow-succ}
use lib.Pow.{pow-lt}
use lib.Count.{count_trailing_zeros}
use lib.Ieee.{fin, inf, Format, prec, emax, low, hid, ones, top, down, minus, size, odd, units}
use lib.Ieee.{of_bits, to_bits}
use lib.Ieee.Digits.{Equals, odd_val}
use lib.Ieee.Fits.{two, reach, two-le_pos, down_pos, odd-fits, inf-fits}
use lib.Ieee.Bits.{of_bits-to_bits}
use Rattle.ieee754_parts.proofs.Tests.{lt-or-ge}
use Rattle.ieee754_parts.proofs.Sizes.{size-drop}

-- ---- the pattern of a value, by its size in units of the smallest value

to_bits-of : (f : Format) (s : Bool) (m : ℕ) (e : ℤ) (n : ℕ)
    → Equals (fin s m e) n (2 ^ low f)
    → to_bits f (fin s m e)
    ≡ cond s (top f) 0 + ((size n - prec f) * hid f + n / 2 ^ (size n - prec f))
unfolding to_bits
to_bits-of f s m e n h =
    ap (λ (x : ℕ). cond s (top f) 0 + (size x - prec f) * hid f + x / 2 ^ (size x - prec f))
    (ap (λ (x : ℕ). x / down e) h ∙ mul-div_cancel n (down_pos e))
    ∙ add_assoc (cond s (top f) 0) ((size n - prec f) * hid f) (n / 2 ^ (size n - prec f))

to_bits_odd : (f : Format) (d : ℕ) (s : Bool) (q k : ℕ)
    → let n = q * 2 ^ k in
    to_bits f (odd d s q k (low f))
    ≡ cond s (top f) 0 + ((size n - prec f) * hid f + n / 2 ^ (size n - prec f))
unfolding odd
to_bits_odd f d s zero k = to_bits-of f s 0 (pos 0) (0 * 2 ^ k) (odd_val d s zero k (low f))
to_bits_odd f d s (suc q) k =
    let t = count_trailing_zeros d (suc q) in
    to_bits-of f s (suc q / 2 ^ t) (minus (k + t) (low f)) (suc q * 2 ^ k)
    (odd_val d s (suc q) k (low f))

-- ---- the fields of q * 2 ^ k

abbrev fields_of : Format → ℕ → ℕ
fields_of f n = (size n - prec f) * hid f + n / 2 ^ (size n - prec f)

-- a number with all its digits, and one that lacks the leading digit and drops none
fields-kept : (f : Format) (q k : ℕ)
    → q < 2 ^ prec f
    → (0 < k → hid f ≤ q)
    → fields_of f (q * 2 ^ k) ≡ k * hid f + q
fields-kept f q k h l =
    let n = q * 2 ^ k in
    let lead : 0 < k → 2 ^ (prec f - 1 + k) ≤ n = λ z.
    subst (λ (x : ℕ). x ≤ n) (sym (pow-add 2 (prec f - 1) k)) (mul-le-mul_right (2 ^ k) (l z)) in
    ap (λ (z : ℕ). z * hid f + n / 2 ^ z)
    (size-drop (prec f) n k (two-le_pos (prec f) (two f)) (shl_lt (prec f) k h) lead)
    ∙ ap (λ (x : ℕ). k * hid f + x) (mul-div_cancel q (pow_pos k))

twice_hid : (f : Format) → 2 ^ prec f ≡ hid f + hid f
twice_hid f = ap (λ (x : ℕ). 2 ^ x) (omega (arith, two f)) ∙ two-pow-succ (prec f - 1)

-- 2 ^ prec has a digit too many: it is `hid`, with one digit more dropped
carried : (f : Format) (k : ℕ) → 2 ^ prec f * 2 ^ k ≡ hid f * 2 ^ suc k
carried f k =
    sym (pow-add 2 (prec f) k)
    ∙ ap (λ (x : ℕ). 2 ^ x) (omega (arith, two f))
    ∙ pow-add 2 (prec f - 1) (suc k)

fields : (f : Format) (q k : ℕ)
    → q ≤ 2 ^ prec f
    → (0 < k → hid f ≤ q)
    → fields_of f (q * 2 ^ k) ≡ k * hid f + q
fields f q k h l =
    ⊎_elim one_more (λ (g : q < 2 ^ prec f). fields-kept f q k g l) (eq-or-lt_of_le h)
  where
    one_more : q ≡ 2 ^ prec f → fields_of f (q * 2 ^ k) ≡ k * hid f + q
    one_more e =
        ap (fields_of f) (ap (λ (x : ℕ). x * 2 ^ k) e ∙ carried f k)
        ∙ fields-kept f (hid f) (suc k) (omega (arith, twice_hid f, pow_pos (prec f - 1)))
        (λ _. le_refl (hid f))
        ∙ omega (arith, e, twice_hid f)

-- ---- which patterns are finite: those below `ones` * `hid`, and their values are the numbers
-- below 2 ^ (low + emax + 1) units

module _ (f : Format) (q k : ℕ) (short : q ≤ 2 ^ prec f) (full : 0 < k → hid f ≤ q) where
  under : k * hid f + q < ones f * hid f → q * 2 ^ k < 2 ^ (low f + suc (emax f))
  under h = ⊎_elim most all (eq-or-lt_of_le short)
    where
      -- q is 2 ^ prec
      most : q ≡ 2 ^ prec f → q * 2 ^ k < 2 ^ (low f + suc (emax f))
      most e =
          let room : suc (suc k) < ones f =
          lt_of_mul-lt-mul_right (hid f)
          (omega (arith, twice_hid f, suc-mul (suc k) (hid f), suc-mul k (hid f))) in
          lt_of_le_of_lt (le_of_eq (ap (λ (x : ℕ). x * 2 ^ k) e ∙ sym (pow-add 2 (prec f) k)))
          (pow-lt (omega (arith, two f)))

      all : q < 2 ^ prec f → q * 2 ^ k < 2 ^ (low f + suc (emax f))
      all g =
          let room : suc k < ones f =
          ⊎_elim (λ (z : k < 1). omega (arith, reach f, two f))
          (λ (z : 0 < k).
          let b = full z in lt_of_mul-lt-mul_right (hid f) (omega (arith, suc-mul k (hid f))))
          (lt-or-ge k 1) in
          lt_of_lt_of_le (shl_lt (prec f) k g) (pow_mono (omega (arith, two f)))

  over : ones f * hid f ≤ k * hid f + q → 2 ^ (low f + suc (emax f)) ≤ q * 2 ^ k
  over h = ⊎_elim all most (lt-or-ge (ones f) (suc (suc k)))
    where
      all : ones f < suc (suc k) → 2 ^ (low f + suc (emax f)) ≤ q * 2 ^ k
      all l =
          le_trans (pow_mono (omega (arith, two f, reach f)))
          (le_trans (le_of_eq (pow-add 2 (prec f - 1) k))
          (mul-le-mul_right (2 ^ k) (full (omega (arith, two f, reach f)))))

      most : suc (suc k) ≤ ones f → 2 ^ (low f + suc (emax f)) ≤ q * 2 ^ k
      most l =
          let m = mul-le-mul_right (hid f) l in
          let e : 2 ^ prec f ≤ q =
          omega (arith, twice_hid f, suc-mul (suc k) (hid f), suc-mul k (hid f)) in
          let room : ones f ≤ suc (suc k) =
          le_of_mul-le-mul_right
          (omega (arith, twice_hid f, suc-mul (suc k) (hid f), suc-mul k (hid f)))
          (pow_pos (prec f - 1)) in
          le_trans (pow_mono (omega (arith, two f)))
          (le_trans (le_of_eq (pow-add 2 (prec f) k)) (mul-le-mul_right (2 ^ k) e))

  -- ---- the laws

  pub units-finite : (s : Bool)
      → k * hid f + q < ones f * hid f
      → of_bits f (cond s (top f) 0 + (k * hid f + q)) ≡ units f s q k
  unfolding units
  units-finite s h =
      let v = odd (suc (prec f)) s q k (low f) in
      let o = under h in
      sym
      (ap (λ (b : Bool). cond b v (inf s)) (lt-ltb (q * 2 ^ k) (2 ^ (low f + suc (emax f))) o)
      ∙ sym (of_bits-to_bits f v (odd-fits f (suc (prec f)) s q k
      (lt_of_le_of_lt short (pow-lt (le_refl (suc (prec f))))) short o))
      ∙ ap (of_bits f)
      (to_bits_odd f (suc (prec f)) s q k ∙
      ap (λ (x : ℕ). cond s (top f) 0 + x) (fields f q k short full)))

  pub units-infinite : (s : Bool)
      → ones f * hid f ≤ k * hid f + q
      → of_bits f (cond s (top f) 0 + ones f * hid f) ≡ units f s q k
  unfolding units to_bits
  units-infinite s h =
      of_bits-to_bits f (inf s) (inf-fits f s)
      ∙ sym (ap (λ (b : Bool). cond b (odd (suc (prec f)) s q k (low f)) (inf s))
      (le-ltb (q * 2 ^ k) (2 ^ (low f + suc (emax f))) (over h)))

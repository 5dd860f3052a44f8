-- `unpack` meets its contract: what the fields of x's bit pattern stand for (Reading.antt). Assumes
-- nothing.
use Rattle.std.proofs.Common.{◌≡◌, ℕ, ◌-◌, ◌/◌, ◌%◌, ◌^◌, ◌<◌, ◌≤◌, arith, rules}
use lib.Pow.{field}
use lib.Ieee.{binary64, to_bits}
use denote.Floats.{passes}
use Rattle.ieee754_parts.proofs.Reading.{field-range, read-lowest, read-higher}
use Rattle.ieee754_parts.proofs.Reading.{finite-not-nan}
use Rattle.ieee754_parts.proofs.unpack.unpack.Goals as goal

pub float_to_bits-bits : goal.float_to_bits-bits
float_to_bits-bits c = finite-not-nan c.args.x c.requires

pub returns-then-field-eq0 : goal.returns-then-field-eq0
returns-then-field-eq0 c =
    let x = c.args.x in
    record {
      is =
          read-lowest binary64 x (passes _ c.well_formed.0.1) _
          (field (to_bits binary64 x) 11 52) c.if-field-eq0.true;
      digits = record {
        short = short (to_bits binary64 x);
        full = λ h. search rules;
        within = search rules;
      };
    }
  where
    short : (b : ℕ) → b % 2 ^ 52 < 2 ^ 53
    short b = omega arith

pub returns-else-field-eq0 : goal.returns-else-field-eq0
returns-else-field-eq0 c =
    let x = c.args.x in
    let b = to_bits binary64 x in
    let v =
    read-higher binary64 x (passes _ c.well_formed.0.1) _ (field b 11 52) c.requires
    c.if-field-eq0.false in
    record {
      is = v.0;
      digits = record {
        short = (field-range b).1;
        full = λ _. (field-range b).0;
        within = within b v.1;
      };
    }
  where
    within : (b : ℕ) → (b / 2 ^ 52 % 2 ^ 11 ≡ 2047 → ⊥) → b / 2 ^ 52 % 2 ^ 11 - 1 ≤ 2045
    within b h = omega arith

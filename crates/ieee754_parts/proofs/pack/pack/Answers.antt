-- `pack` meets its contract: past the patterns of the finite doubles it is an infinity
-- (Patterns.antt). Assumes nothing.
use Rattle.std.proofs.Common.{◌≡◌, ℕ, ◌+◌, ◌*◌, ◌^◌, ◌<◌, ◌≤◌, min, Bool, ap, ◌∙◌, ⊎_elim, arith}
use lib.Ieee.{binary64, units, of_bits}
use Rattle.ieee754_parts.specs.Unpacked.{sign_bit}
use Rattle.ieee754_parts.proofs.Tests.{lt-or-ge}
use Rattle.ieee754_parts.proofs.Patterns.{units-finite, units-infinite}
use Rattle.ieee754_parts.proofs.pack.pack.Goals as goal

-- the pattern, capped to r
packed : (s : Bool) (q k r : ℕ)
    → q ≤ 2 ^ 53
    → (0 < k → 2 ^ 52 ≤ q)
    → r ≡ min (k * 2 ^ 52 + q) (2047 * 2 ^ 52)
    → of_bits binary64 (sign_bit s + r) ≡ units binary64 s q k
packed s q k r a b e =
    ⊎_elim (λ (l : k * 2 ^ 52 + q < 2047 * 2 ^ 52).
    let f : r ≡ k * 2 ^ 52 + q = omega arith in
    ap (λ (x : ℕ). of_bits binary64 (sign_bit s + x)) f ∙ units-finite binary64 q k a b s l)
    (λ (g : 2047 * 2 ^ 52 ≤ k * 2 ^ 52 + q).
    let f : r ≡ 2047 * 2 ^ 52 = omega arith in
    ap (λ (x : ℕ). of_bits binary64 (sign_bit s + x)) f ∙ units-infinite binary64 q k a b s g)
    (lt-or-ge (k * 2 ^ 52 + q) (2047 * 2 ^ 52))

pub returns : goal.returns
returns c =
    let k = c.capped in
    c.with_sign.ensures
    ∙ packed c.args.negative c.args.sig c.args.exp k.result c.requires.0 c.requires.1
    k.ensures

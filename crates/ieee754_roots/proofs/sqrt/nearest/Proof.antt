-- `nearest` meets its contract: a guess that is the nearest number, or is one below it, is right,
-- and where neither holds the digits are found one by one. Assumes nothing.
use Prim.Native.Nat.{ℕ, ◌+◌, ◌*◌, ◌%◌, ◌^◌, ◌≤◌, ◌<◌}
use native.Mathlib.Omega.{arith}
use borrow.Author.Rules.{rules}
use lib.Dec.{lit≤}
use Rattle.ieee754_roots.specs.Nearest.{IsNearest}
use Rattle.ieee754_roots.proofs.Moved.{moved-range, moved-nearest}
use Rattle.ieee754_parts.proofs.Reading.{below-not-nan}
use Rattle.ieee754_roots.proofs.sqrt.nearest.Statement.{statement}
use Rattle.ieee754_roots.proofs.sqrt.nearest.Tie as tie

-- the digits of a guess, whatever its pattern is, and the number after them
digits-range : (b : ℕ) → (2 ^ 52 ≤ b % 2 ^ 52 + 2 ^ 52) × (b % 2 ^ 52 + 2 ^ 52 ≤ 2 ^ 53)
digits-range b = (omega arith, omega arith)

next-range : (b : ℕ) → (2 ^ 52 ≤ b % 2 ^ 52 + 2 ^ 52 + 1) × (b % 2 ^ 52 + 2 ^ 52 + 1 ≤ 2 ^ 53)
next-range b = (omega arith, omega arith)

float-to-bits-digits : tie.Need-float_to_bits-digits
float-to-bits-digits c = below-not-nan _ _ c.if-root.true

-- the moved significand
moved-lt : (s : tie.Start) → s.args.m * 2 ^ s.args.odd % 2 ^ 64 < 2 ^ 54
moved-lt s =
    (moved-range 2 s.args.m s.args.odd s.requires.0 s.requires.1 s.requires.2 (lit≤ tt)).1

-- a number near to the root by the moved significand is near to the root
near : (s : tie.Start) {q : ℕ}
    → IsNearest 2 (s.args.m * 2 ^ s.args.odd % 2 ^ 64 * 2 ^ 52) q
    → IsNearest 2 (s.args.m * 2 ^ s.args.odd * 2 ^ 52) q
near s h =
    moved-nearest 2 s.args.m s.args.odd s.requires.0 s.requires.1 s.requires.2 (lit≤ tt) h

is-nearest-requires : tie.Need-is_nearest-requires
is-nearest-requires c κs =
    let s = c.before.before in (moved-lt s, (digits-range _).0, (digits-range _).1)

returns : tie.Need-returns-then-is_nearest
returns c =
    let after-is-nearest = c.before in
    let after-guess = after-is-nearest.before.before in
    near after-guess.before (after-is-nearest.is_nearest.ensures c.if-is_nearest.true)

is-nearest-requires-2 : tie.Need-is_nearest-requires-then-root
is-nearest-requires-2 c κs =
    let after-is-nearest = c.before in
    let after-guess = after-is-nearest.before.before in
    (moved-lt after-guess.before, (next-range _).0, (next-range _).1)

returns-2 : tie.Need-returns-then-is_nearest-2
returns-2 c =
    let after-is-nearest2 = c.before in
    let after-is-nearest = after-is-nearest2.before.before in
    let after-guess = after-is-nearest.before.before in
    near after-guess.before (after-is-nearest2.is_nearest-then-root.ensures c.if-is_nearest-2.true)

by-digits-requires : tie.Need-by_digits-requires
by-digits-requires c κs =
    let s = c.before.before in
    moved-range 2 s.args.m s.args.odd s.requires.0 s.requires.1 s.requires.2 (lit≤ tt)

returns-3 : tie.Need-returns
returns-3 c =
    let after-guess = c.before.before in near after-guess.before c.by_digits.ensures

pub nearest_spec : {M : Type 1} → statement M
nearest_spec =
    tie.close (tie.spec (λ c. search rules) (λ c _. search rules) float-to-bits-digits
    (λ c. search rules) is-nearest-requires returns (λ c. search rules) is-nearest-requires-2
    returns-2 by-digits-requires returns-3)

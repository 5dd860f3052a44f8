-- The answers of `record_at`, each by the facts that lead to it. Assumes nothing.
use Prim.Native.Nat.{ℕ, ◌+◌, ◌-◌, ◌≤◌, ◌<◌}
use mathlib.Core.Path.{◌≡◌}
use mathlib.Core.List.{List}
use native.Mathlib.Omega.{arith}
use lib.Dec.{eqb, leb}
use lib.ListN.{length, get_or}
use borrow.Author.Tests.{le-ltb, lt-ltb, le-leb, lt-leb, eq-eqb, ne_eqb}
use Rattle.records.specs.Types.{Record, End, Stop, Skip, Accepted, Length, Version, Short}
use Rattle.records.specs.Format.{part, big_endian, frame_at}
use Rattle.records.specs.Record.{ask, record_at}

module _ (s : List ℕ) (at : ℕ) where
  pub ended : length s ≤ at → record_at s at ≡ End
  unfolding record_at
  ended h = rw (le-ltb 0 (length s - at) (omega arith))

  pub lone-byte : at < length s → length s - at < 2 → record_at s at ≡ Stop Short
  unfolding record_at
  lone-byte some h =
      rw (
        lt-ltb 0 (length s - at) (omega arith),
        lt-leb 2 (length s - at) h,
      )

  -- the last question
  abbrev versioned : Record
  versioned =
      ask (eqb (get_or s (at + 2) 0) 1) (Skip Version (at + 195))
      (Accepted (frame_at s (at + 3)) (at + 195))

  module _ (two : 2 ≤ length s - at) where
    sized : record_at s at
        ≡ ask (eqb (big_endian (part s at 2)) 193) (Stop Length)
        (ask (leb 193 (length s - at - 2)) (Stop Short) versioned)
    unfolding record_at
    sized = rw (lt-ltb 0 (length s - at) (omega arith), le-leb 2 (length s - at) two)

    pub wrong-length : (big_endian (part s at 2) ≡ 193 → ⊥) → record_at s at ≡ Stop Length
    wrong-length h = rw (sized, ne_eqb (big_endian (part s at 2)) 193 h)

    module _ (right : big_endian (part s at 2) ≡ 193) where
      pub truncated : length s - at - 2 < 193 → record_at s at ≡ Stop Short
      truncated h =
          rw (
            sized,
            eq-eqb (big_endian (part s at 2)) 193 right,
            lt-leb 193 (length s - at - 2) h,
          )

      module _ (whole : 193 ≤ length s - at - 2) where
        all_there : record_at s at ≡ versioned
        all_there =
            rw (
              sized,
              eq-eqb (big_endian (part s at 2)) 193 right,
              le-leb 193 (length s - at - 2) whole,
            )

        pub wrong-version : (get_or s (at + 2) 0 ≡ 1 → ⊥) → record_at s at ≡ Skip Version (at + 195)
        wrong-version h = rw (all_there, ne_eqb (get_or s (at + 2) 0) 1 h)

        pub accepted : get_or s (at + 2) 0 ≡ 1
            → record_at s at ≡ Accepted (frame_at s (at + 3)) (at + 195)
        accepted h = rw (all_there, eq-eqb (get_or s (at + 2) 0) 1 h)

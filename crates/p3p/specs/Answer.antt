-- Answers as C and Rust get them, where a crate below has a type of its own: as include/p3p.h
-- declares them.
use Rattle.std.specs.Prelude.{ℤ, pos, negsuc}
use Rattle.p3p.specs.Types.{Ordering, Less, Equal, Greater}

-- -1, 0 or 1
abbrev pub ordering : Ordering → ℤ
ordering Less = negsuc 0
ordering Equal = pos 0
ordering Greater = pos 1

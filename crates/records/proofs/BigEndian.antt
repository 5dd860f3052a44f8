-- The number that byteorder reads is the one that the bytes stand for. Assumes nothing.
use Rattle.std.proofs.Common.{◌≡◌, ℕ, zero, suc, ◌+◌, ◌≤◌, List, length, take, drop, get_or, ◌-◌, refl, ap, sym, ◌∙◌, ◌∷◌, add-one, arith}
use Rattle.std.proofs.Math.Seq.{take-length}
use Rattle.std.proofs.lemmas.List.{drop_more, length-take-le, length-drop}
use Rattle.byteorder.specs.Endian.{big_from}
use Rattle.records.specs.Format.{part, big_endian}

big_from-part : (xs : List ℕ) (i n : ℕ)
    → i + n ≤ length xs
    → big_from i n xs ≡ big_endian (part xs i n)
unfolding big_endian
big_from-part xs i zero h = refl
big_from-part xs i (suc n) h =
    let rest = drop (suc i) xs in
    let all : length (take n rest) ≡ n =
    length-take-le n rest (simp length-drop (omega arith)) in
    let more : drop i xs ≡ get_or xs i 0 ∷ rest = drop_more xs i 0 (omega arith) ∙ rw add-one refl in
    rw (more, all, big_from-part xs (suc i) n (omega arith)) refl

-- of a slice from a position on
pub read_from : (s : List ℕ) (at n : ℕ)
    → at + n ≤ length s
    → big_from 0 n (take (length s - at) (drop at s)) ≡ big_endian (part s at n)
read_from s at n h =
    let rest = drop at s in
    let whole : take (length s - at) rest ≡ rest =
    ap (λ (k : ℕ). take k rest) (sym (length-drop at s)) ∙ take-length rest in
    rw whole (big_from-part rest 0 n (simp length-drop (omega arith)))

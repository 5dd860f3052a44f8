-- Reading gives back what was encoded: `record_at` on the bytes of a frame, wherever they stand in
-- an input, accepts that frame (`reads-back`). A NaN is encoded by one of its patterns and is read
-- as the NaN. Assumes nothing.
use Prim.Native.Nat.{ℕ, zero, suc, ◌+◌, ◌*◌, ◌%◌, ◌^◌, ◌<◌}
use mathlib.Core.Path.{◌≡◌, refl, sym, ap, ◌∙◌}
use mathlib.Core.List.{List, [], ◌∷◌, ◌++◌, append_assoc}
use native.Mathlib.Nat.{pow-suc, mod-one, mod-eq_of_lt, one-le-pow, mul_comm, zero-lt-suc}
use native.Mathlib.Nat.{add-zero, zero-add, le_of_suc-le-suc}
use native.Mathlib.Omega.{arith}
use lib.Arith.{mod-mul}
use lib.Dec.{T, lit<}
use lib.ListN.{length, get_or, length-append}
use lib.Seq.{take_at, drop_at, get_or_at}
use lib.Ieee.{Float, binary64, of_bits, to_bits, fits}
use lib.Ieee.Bits.{of_bits-to_bits, to_bits-lt}
use Rattle.linalg.specs.Doubles.{Doubles}
use Rattle.records.specs.Types.{Vector3, Frame, Accepted}
use Rattle.records.specs.Format.{part, big_endian, double_at, vector_at, frame_at}
use Rattle.records.specs.Record.{record_at}
use Rattle.records.specs.Encoding.{bytes, double_bytes, vector_bytes, vectors_bytes, vectors}
use Rattle.records.specs.Encoding.{record_bytes, AllDoubles}
use Rattle.records.proofs.Answers.{accepted}

-- ---- numbers

pub length-bytes : (k n : ℕ) → length (bytes k n) ≡ k
unfolding bytes
length-bytes zero n = refl
length-bytes (suc k) n = ap suc (length-bytes k n)

-- k bytes hold a number up to 256 ^ k
pub bytes-value : (k n : ℕ) → big_endian (bytes k n) ≡ n % 256 ^ k
unfolding bytes big_endian
bytes-value zero n = sym (mod-one n)
bytes-value (suc k) n =
    let some = one-le-pow k 256 (zero-lt-suc 255) in
    let last = mod-mul n {m = 256} {c = 256 ^ k} (zero-lt-suc 255) some in
    let power = mul_comm 256 (256 ^ k) ∙ sym (pow-suc 256 k) in
    rw (length-bytes k n, bytes-value k n) (sym last ∙ ap (λ (m : ℕ). n % m) power)

-- the bytes that were put between others
part-middle : (before middle after : List ℕ) (at n : ℕ)
    → length before ≡ at
    → length middle ≡ n
    → part (before ++ (middle ++ after)) at n ≡ middle
part-middle before middle after at n e l =
    rw (drop_at before (middle ++ after) at e) (take_at middle after n l)

-- ---- doubles and vectors

double-back : (before after : List ℕ) (at : ℕ) (x : Float)
    → T (fits binary64 x)
    → length before ≡ at
    → double_at (before ++ (double_bytes x ++ after)) at ≡ x
unfolding double_at
double-back before after at x h e =
    let pattern = to_bits binary64 x in
    let small : pattern < 256 ^ 8 = to_bits-lt binary64 x h in
    let middle = part-middle before (double_bytes x) after at 8 e (length-bytes 8 pattern) in
    ap (λ (l : List ℕ). of_bits binary64 (big_endian l)) middle
    ∙ ap (of_bits binary64) (bytes-value 8 pattern ∙ mod-eq_of_lt small)
    ∙ of_bits-to_bits binary64 x h

module _ (s before after : List ℕ) (at k : ℕ) (v : Vector3)
    (placed : length before ≡ at + 24 * k)
    (split : s ≡ before ++ (vector_bytes v ++ after))
    (doubles : Doubles v) where
  abbrev X : List ℕ
  X = double_bytes v.x

  abbrev Y : List ℕ
  Y = double_bytes v.y

  abbrev Z : List ℕ
  Z = double_bytes v.z

  x-back : double_at s (at + 24 * k) ≡ v.x
  unfolding vector_bytes
  x-back =
      let e : s ≡ before ++ (X ++ (Y ++ Z ++ after)) = split ∙ simp append_assoc in
      rw e (double-back before (Y ++ Z ++ after) _ v.x doubles.x placed)

  y-back : double_at s (at + 24 * k + 8) ≡ v.y
  unfolding vector_bytes
  y-back =
      let e : s ≡ (before ++ X) ++ (Y ++ (Z ++ after)) = split ∙ simp append_assoc in
      let put : length (before ++ X) ≡ at + 24 * k + 8 =
      simp (length-append, length-bytes) (omega arith) in
      rw e (double-back (before ++ X) (Z ++ after) _ v.y doubles.y put)

  z-back : double_at s (at + 24 * k + 16) ≡ v.z
  unfolding vector_bytes
  z-back =
      let e : s ≡ (before ++ X ++ Y) ++ (Z ++ after) = split ∙ simp append_assoc in
      let put : length (before ++ X ++ Y) ≡ at + 24 * k + 16 =
      simp (length-append, length-bytes) (omega arith) in
      rw e (double-back (before ++ X ++ Y) after _ v.z doubles.z put)

  vector-back : vector_at s at k ≡ v
  unfolding vector_at
  vector-back = rw (x-back, y-back, z-back)

length-vector : (v : Vector3) → length (vector_bytes v) ≡ 24
unfolding vector_bytes
length-vector v = simp (length-append, length-bytes)

length-vectors : (vs : List Vector3) → length (vectors_bytes vs) ≡ 24 * length vs
unfolding vectors_bytes
length-vectors [] = refl
length-vectors (v ∷ vs) = simp (length-append, length-vector, length-vectors vs) (omega arith)

-- the vector at place j of those that follow the first i
vectors-back : (s before after : List ℕ) (at i : ℕ) (vs : List Vector3) (d : Vector3)
    → length before ≡ at + 24 * i
    → s ≡ before ++ (vectors_bytes vs ++ after)
    → AllDoubles vs
    → (j : ℕ)
    → j < length vs
    → vector_at s at (i + j) ≡ get_or vs j d
unfolding vectors_bytes
vectors-back s before after at i [] d placed split doubles j h = absurd (omega arith)
vectors-back s before after at i (v ∷ vs) d placed split doubles zero h =
    let first : s ≡ before ++ (vector_bytes v ++ (vectors_bytes vs ++ after)) =
    split ∙ simp append_assoc in
    rw add-zero (vector-back s before (vectors_bytes vs ++ after) at i v placed first doubles.0)
vectors-back s before after at i (v ∷ vs) d placed split doubles (suc j) h =
    let passed = before ++ vector_bytes v in
    let place : length passed ≡ at + 24 * (i + 1) =
    simp (length-append, length-vector) (omega arith) in
    let rest : s ≡ passed ++ (vectors_bytes vs ++ after) = split ∙ simp append_assoc in
    let same : i + suc j ≡ i + 1 + j = omega arith in
    let inside = le_of_suc-le-suc h in
    rw same (vectors-back s passed after at (i + 1) vs d place rest doubles.1 j inside)

-- ---- the record

module _ (before after : List ℕ) (f : Frame) (doubles : AllDoubles (vectors f)) where
  abbrev whole : List ℕ
  whole = before ++ (record_bytes f ++ after)

  abbrev start : ℕ
  start = length before

  abbrev body : List ℕ
  body = vectors_bytes (vectors f)

  length_whole : length whole ≡ start + (195 + length after)
  unfolding record_bytes
  length_whole = simp (length-append, length-bytes, length-vectors) (omega arith)

  length-right : big_endian (part whole start 2) ≡ 193
  unfolding record_bytes
  length-right =
      let rest = bytes 1 1 ++ (body ++ after) in
      let e : whole ≡ before ++ (bytes 2 193 ++ rest) = simp append_assoc in
      let middle = part-middle before (bytes 2 193) rest start 2 refl (length-bytes 2 193) in
      rw (e, middle) (bytes-value 2 193)

  version-right : get_or whole (start + 2) 0 ≡ 1
  unfolding record_bytes bytes
  version-right =
      let front = before ++ bytes 2 193 in
      let e : whole ≡ front ++ (1 ∷ (body ++ after)) = simp append_assoc in
      rw e (get_or_at front 1 (body ++ after) 0 (start + 2) (simp (length-append, length-bytes)))

  vector : (j : ℕ) → j < 8 → vector_at whole (start + 3) j ≡ get_or (vectors f) j f.world.p0
  unfolding record_bytes
  vector j h =
      let front = before ++ bytes 2 193 ++ bytes 1 1 in
      let e : whole ≡ front ++ (body ++ after) = simp append_assoc in
      let place : length front ≡ start + 3 + 24 * 0 =
      simp (length-append, length-bytes) (omega arith) in
      rw (zero-add j) at
      (vectors-back whole front after (start + 3) 0 (vectors f) f.world.p0 place e doubles j h)

  frame_back : frame_at whole (start + 3) ≡ f
  unfolding frame_at
  frame_back =
      rw (
        vector 0 (lit< tt),
        vector 1 (lit< tt),
        vector 2 (lit< tt),
        vector 3 (lit< tt),
        vector 4 (lit< tt),
        vector 5 (lit< tt),
        vector 6 (lit< tt),
        vector 7 (lit< tt),
      )

  pub reads-back : record_at whole start ≡ Accepted f (start + 195)
  reads-back =
      accepted whole start (omega (arith, length_whole)) length-right (omega (arith, length_whole))
      version-right
      ∙ ap (λ (g : Frame). Accepted g (start + 195)) frame_back

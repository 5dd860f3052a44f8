-- One answer of the root finders to every input, as specs/OneAnswer.antt states it: the quadratic
-- answers with two roots of their kind, 4 or 5 (`quadratic-answer`), the cubic with one root, 4 or
-- 6 (`cubic-answer`). So a quadratic that is not refused has two roots (`quadratic-two`), and such
-- a cubic has one (`cubic-one`). Assumes nothing.
use Rattle.std.specs.Prelude.{if◌then◌else◌, Option, Some, None}
use mathlib.Core.Path.{◌≡◌, refl, ap, subst}
use mathlib.Core.Bool.{Bool, true, false, not, ◌&&◌, ◌||◌}
use Prim.Native.Nat.{ℕ}
use native.Mathlib.Omega.{arith}
use lib.Dec.{T}
use lib.Ieee.{Float, binary64, mul, lt, eq, of_bits}
use lib.Ieee.Fits.{and_i}
use lib.Ieee.Scale.{finite}
use lib.ListN.{length}
use mir.Facts.{T_not-not}
use Rattle.ieee754.specs.Literal.{plus_zero}
use Rattle.ieee754.specs.Maximum.{max}
use Rattle.ieee754.specs.Traced.{Traced, pure, with_some}
use Rattle.ieee754.proofs.Tests.{either_way, not-both-left, not-both-right}
use Rattle.cubic_parts.specs.CubicScale.{all_zero, cubic_variable_scale, normalised}
use Rattle.cubic_parts.specs.CubicStart.{start_root}
use Rattle.cubic_parts.specs.Newton.{newton_steps}
use Rattle.polynomial.specs.Answer.{no_root, number, values, kind}
use Rattle.polynomial.specs.Quadratic.{discriminant_of, double_root, quadratic_pair}
use Rattle.polynomial.specs.Quadratic.{quadratic_real_monic_computed, quadratic_real_monic}
use Rattle.polynomial.specs.PolishedRoot.{rescaled_root, polished_root, polished_cubic_root}
use Rattle.polynomial.specs.OneAnswer.{NoRoots, TwoRoots, PairKind, above_zero, at_zero}
use Rattle.polynomial.specs.OneAnswer.{below-zero, OneRoot, no_real_pair, nothing_from}
use Rattle.polynomial.specs.OneAnswer.{no_cubic_root, QuadraticAnswer, quadratic-4, quadratic-5}
use Rattle.polynomial.specs.OneAnswer.{quadratic-roots, CubicAnswer, cubic-4, cubic-6}
use Rattle.polynomial.specs.OneAnswer.{cubic-root}
use Rattle.polynomial.specs.Types.{Monic, Roots, Two, One, Refused}
use Rattle.polynomial.proofs.CutToZero.{cut-zero, uncut-above}

refused : (n : ℕ) → NoRoots n (Refused n)
refused n = record { refused = refl; roots = refl }

-- ---- the tests of the definitions: one of two or of three is not finite
both-finite : (b c : Bool) → not b || not c ≡ not (b && c)
both-finite true c = refl
both-finite false c = refl

all-finite : (b c d : Bool) → not b || not c || not d ≡ not (b && c && d)
all-finite true true d = refl
all-finite true false d = refl
all-finite false c d = refl

-- what holds in both cases of such a test
either-finite : {A : Type 0} (P : A → Type 0) (test all : Bool) {x y : A}
    → test ≡ not all
    → (T (not all) → P x)
    → (T all → P y)
    → P (if test then x else y)
either-finite P test all same f g =
    either_way P test (λ t. f (subst T same t))
    (λ t. g (T_not-not all (subst (λ (b : Bool). T (not b)) same t)))

-- ---- the quadratic
two : (x y : Float) → TwoRoots (Two x y)
two x y = record { first = x; second = y; not-refused = refl; roots = refl }

double-two : (root computed : Float) → TwoRoots (double_root root computed)
unfolding double_root
double-two root computed =
    either_way TwoRoots (lt computed plus_zero)
    (λ _. record { first = root; second = root; not-refused = refl; roots = refl })
    (λ _. record { first = root; second = root; not-refused = refl; roots = refl })

pair-two : (b c d : Float) → TwoRoots (quadratic_pair b c d).value
unfolding quadratic_pair
pair-two b c d =
    let P : Traced Roots → Type 0 = λ m. TwoRoots m.value in
    either_way P (eq (max d plus_zero) plus_zero) (λ _. double-two _ d)
    (λ _. either_way P (eq _ plus_zero) (λ _. two _ _) (λ _. two _ _))

double-kind : (root d : Float)
    → T (finite d)
    → T (eq (max d plus_zero) plus_zero)
    → PairKind d (double_root root d)
unfolding double_root
double-kind root d f cut =
    either_way (PairKind d) (lt d plus_zero) (λ below. below-zero below refl)
    (λ not-below. at_zero (cut-zero d f not-below cut) refl)

pair-kind : (b c d : Float) → T (finite d) → PairKind d (quadratic_pair b c d).value
unfolding quadratic_pair
pair-kind b c d f =
    let P : Traced Roots → Type 0 = λ m. PairKind d m.value in
    either_way P (eq (max d plus_zero) plus_zero) (double-kind _ d f) (λ uncut.
    let above = uncut-above d f uncut in
    either_way P (eq _ plus_zero) (λ _. above_zero above refl) (λ _. above_zero above refl))

-- a discriminant that is not refused is finite
there : (below real : Bool) → T (not (below || not real)) → T real
there true real h = absurd h
there false real h = T_not-not real h

pub quadratic-answer : (b c : Float) → QuadraticAnswer b c (quadratic_real_monic b c).value
unfolding quadratic_real_monic quadratic_real_monic_computed no_real_pair
quadratic-answer b c =
    let P : Traced Roots → Type 0 = λ m. QuadraticAnswer b c m.value in
    let discriminant = (discriminant_of b c).value in
    either-finite P (not (finite b) || not (finite c)) (finite b && finite c)
    (both-finite (finite b) (finite c))
    (λ nonfinite. quadratic-4 nonfinite (refused 4))
    (λ all.
    either_way P (no_real_pair b c) (λ none. quadratic-5 all none (refused 5))
    (λ some.
    quadratic-roots all some (pair-two b c _)
    (pair-kind b c discriminant (there (lt discriminant _) (finite discriminant) some))))

-- ---- the cubic
twice : (b : Bool) → T b → T (not (not b))
twice true h = tt
twice false h = h

one : (x : Float) → T (finite x) → OneRoot (One x)
one x h = record { root = x; not-refused = refl; roots = refl; root-finite = h }

zero-finite : T (finite plus_zero)
unfolding of_bits
zero-finite = tt

-- from the start on
started : (P : Roots → Type 0) (m : Monic) (scale : Float) (start : Option Float)
    → (T (nothing_from m scale start) → P no_root)
    → (T (not (nothing_from m scale start)) → (r : Roots) → OneRoot r → P r)
    → P (with_some start (pure no_root) (rescaled_root m scale)).value
unfolding nothing_from rescaled_root
started P m scale None none some = none tt
started P m scale (Some start) none some =
    let root = mul binary64 (newton_steps 4 m start).value scale in
    either_way (λ (m : Traced Roots). P m.value) (finite root)
    (λ h. some (twice (finite root) h) (One root) (one root h))
    none

pub cubic-answer : (b c d : Float) → CubicAnswer b c d (polished_cubic_root b c d).value
unfolding polished_cubic_root polished_root no_cubic_root
cubic-answer b c d =
    let scale = (cubic_variable_scale b c d).value in
    let m = (normalised b c d scale).value in
    let zeros = all_zero b c d in
    let none : Bool = nothing_from m scale (start_root m).value in
    let P : Traced Roots → Type 0 = λ m. CubicAnswer b c d m.value in
    either-finite P (not (finite b) || not (finite c) || not (finite d))
    (finite b && finite c && finite d) (all-finite (finite b) (finite c) (finite d))
    (λ nonfinite. cubic-4 nonfinite (refused 4))
    (λ all.
    either_way P zeros
    (λ z.
    cubic-root all (not-both-left (not zeros) none (twice zeros z)) (one plus_zero zero-finite))
    (λ some.
    started (CubicAnswer b c d) m scale (start_root m).value
    (λ stop. cubic-6 all (and_i (not zeros) none some stop) (refused 6))
    (λ goes r found. cubic-root all (not-both-right (not zeros) none goes) found)))

-- ---- so an answer that is not refused has two roots, or one
two-of : {b c : Float} {r : Roots}
    → QuadraticAnswer b c r
    → number r ≡ 0
    → length (values r) ≡ 2
two-of (quadratic-4 h none) e = let n = none.refused in absurd (omega (arith, n, e))
two-of (quadratic-5 h k none) e = let n = none.refused in absurd (omega (arith, n, e))
two-of (quadratic-roots h k found kind) e = ap length found.roots

pub quadratic-two : (b c : Float)
    → let answer = (quadratic_real_monic b c).value in
    number answer ≡ 0
    → length (values answer) ≡ 2
quadratic-two b c = two-of (quadratic-answer b c)

one_of : {b c d : Float} {r : Roots}
    → CubicAnswer b c d r
    → number r ≡ 0
    → length (values r) ≡ 1
one_of (cubic-4 h none) e = let n = none.refused in absurd (omega (arith, n, e))
one_of (cubic-6 h k none) e = let n = none.refused in absurd (omega (arith, n, e))
one_of (cubic-root h k found) e = ap length found.roots

pub cubic-one : (b c d : Float)
    → let answer = (polished_cubic_root b c d).value in
    number answer ≡ 0
    → length (values answer) ≡ 1
cubic-one b c d = one_of (cubic-answer b c d)

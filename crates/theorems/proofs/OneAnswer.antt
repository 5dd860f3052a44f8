-- Demand 1 of the mission, as specs/OneAnswer.antt states it: the answer to eighteen doubles is one
-- to four finite poses or number 1, 2 or 3. Assumes nothing.
use Rattle.std.specs.Prelude.{if◌then◌else◌}
use mathlib.Core.Path.{◌≡◌, refl, subst⁻¹}
use mathlib.Core.Bool.{Bool, not, ◌&&◌, ◌||◌}
use Prim.Native.Nat.{ℕ}
use native.Mathlib.Nat.{pos_of_ne-zero}
use lib.Dec.{T, T_not, eqb}
use mir.Facts.{T_not-not}
use lib.Ieee.{Float, binary64, mul, le}
use lib.Ieee.Fits.{and_i, eq→eqb}
use Rattle.ieee754.specs.Literal.{sixty_four, epsilon}
use Rattle.ieee754.specs.Traced.{Traced, pure, with_some, ◌>>=◌, ◌⊘◌, !◌}
use Rattle.ieee754.proofs.Tests.{or_left, or_right, neither, not-both-left, not-both-right}
use Rattle.ieee754.proofs.Tests.{either_way}
use Rattle.polynomial.specs.declared.Roots.TheVariants as roots
use Rattle.polynomial.specs.Answer.{with_root}
use Rattle.polynomial.specs.PolishedRoot.{polished_cubic_root}
use Rattle.p3p_common.specs.Input.{input_finite}
use Rattle.eigen.specs.KnownZero.{eig_with_known_zero}
use Rattle.depths.specs.RatioOf.{ratio_of}
use Rattle.depths.specs.Matrix.{singular_matrix}
use Rattle.depths.specs.Signs.{candidates}
use Rattle.lambdatwist.specs.Poses.{poses}
use Rattle.p3p_common.specs.Slots.{empty}
use Rattle.p3p_common.proofs.SlotLaws.{Kept}
use Rattle.orderings.specs.Basis.{basis_of}
use Rattle.orderings.specs.Permutation.{best_permutation}
use Rattle.lambdatwist.specs.Solve.{answered, refused, if_kept, stopped, solve_candidates, solve_root}
use Rattle.lambdatwist.specs.Solve.{solve_cubic, ordered_or, best_or, solve_ordered, solve}
use Rattle.theorems.specs.OneAnswer.{Accepted, Refused, ordering_unusable, no_ordering}
use Rattle.theorems.specs.OneAnswer.{NamedAnswer, refused-1, refused-2, refused-3, accepted}
use Rattle.theorems.specs.OneAnswer.{OneAnswer}
use Rattle.theorems.specs.Types.{Matrix3, Roots, World, Bearings, P3pInput, Solutions, Eigensystem}
use Rattle.theorems.specs.Types.{Coefficients, Candidates, Answer, Measured, Option, Some, None}
use Rattle.lambdatwist.proofs.KeptPoses.{poses-kept}

-- ---- the two kinds of answer
pub refused-so : (n : ℕ) → Refused n (refused n)
unfolding refused answered empty
refused-so n =
    record { refusal = refl; count = refl; poses = refl; updates = refl; lifted = refl }

if_kept-so : (P : Answer → Type 0)
    → P (refused 3)
    → ((a : Answer) → Accepted a → P a)
    → (s : Solutions)
    → Kept s
    → P (if_kept s)
unfolding if_kept answered
if_kept-so P three found s k =
    either_way P (eqb s.count 0) (λ _. three)
    (λ some.
    found _ (record {
      refusal = refl;
      one-or-more = pos_of_ne-zero (λ e. T_not (eqb s.count 0) some (eq→eqb e));
      slots = k;
    }))

-- ---- from a usable ordering on: what is true of number 3 and of every accepted answer is true of
--      the answer
module _ (P : Answer → Type 0) (three : P (refused 3))
    (found : (a : Answer) → Accepted a → P a) where
  abbrev Gives : Traced Answer → Type 0
  Gives m = P m.value

  with_root-gives : (r : Roots) (f : Float → Traced Answer)
      → ((g : Float) → Gives (f g))
      → Gives (with_root r stopped f)
  with_root-gives (roots.One g) f h = h g
  with_root-gives (roots.Two x y) f h = three
  with_root-gives (roots.Double x) f h = three
  with_root-gives (roots.Lifted x) f h = three
  with_root-gives (roots.Refused n) f h = three

  with_some-gives : {A : Type 0} (o : Option A) (f : A → Traced Answer)
      → ((x : A) → Gives (f x))
      → Gives (with_some o stopped f)
  with_some-gives (Some x) f h = h x
  with_some-gives None f h = three

  module _ (input : P3pInput) (measured : Measured) where
    solve_candidates-gives : (c : Candidates) → Gives (solve_candidates input measured c)
    unfolding solve_candidates
    solve_candidates-gives c =
        with_some-gives (basis_of measured.source).value
        (λ (m : Matrix3). poses input measured m c >>= λ solutions. pure (if_kept solutions))
        (λ m. if_kept-so P three found _ (poses-kept input measured m c))

    solve_root-gives : (g : Float) → Gives (solve_root input measured g)
    unfolding solve_root
    solve_root-gives g =
        let matrix = (singular_matrix measured.squares measured.factors g).value in
        let after : Matrix3 → Bool → Float → Traced Answer
        = λ e lifted x.
        candidates measured.squares measured.factors e x lifted >>= λ found.
        solve_candidates input measured found in
        with_some-gives (eig_with_known_zero matrix).value
        (λ (s : Eigensystem).
        ratio_of s.values.x s.values.y >>= λ ratio.
        with_some ratio stopped (after s.vectors s.lifted))
        (λ s.
        with_some-gives (ratio_of s.values.x s.values.y).value (after s.vectors s.lifted)
        (λ x. solve_candidates-gives _))

    solve_cubic-gives : (c : Coefficients) → Gives (solve_cubic input measured c)
    unfolding solve_cubic
    solve_cubic-gives c =
        let over : Float → Float = λ x. (! x ⊘ ! c.cubic3).value in
        with_root-gives
        (polished_cubic_root (over c.cubic2) (over c.cubic1) (over c.cubic0)).value
        (solve_root input measured) solve_root-gives

-- ---- question 2, of one ordering: what it leads to where it is unusable, and where it is usable
pub ordering-one : (finite unusable none : Bool) (retry : Traced Answer) (input : P3pInput)
    (measured : Measured) (c : Coefficients)
    → T finite
    → (T unusable → NamedAnswer finite none retry.value)
    → (T (not unusable) → T (not none))
    → NamedAnswer finite none (if unusable then retry else solve_cubic input measured c).value
ordering-one finite unusable none retry input measured c f again usable =
    either_way (λ (m : Traced Answer). NamedAnswer finite none m.value) unusable again
    (λ u.
    solve_cubic-gives (NamedAnswer finite none) (refused-3 f (usable u) (refused-so 3))
    (λ a. accepted f (usable u)) input measured c)

-- of two: the given one, or else another, where its condition is not too low. `solved` is that
-- one's turn, which has no retry.
pub orderings-one : (finite given low other : Bool) (retry solved : Traced Answer)
    (input : P3pInput) (measured : Measured) (c : Coefficients)
    → T finite
    → retry.value ≡ (if low then pure (refused 2) else solved).value
    → (T (not low)
    → (T other → NamedAnswer finite (given && (low || other)) (refused 2))
    → (T (not other) → T (not (given && (low || other))))
    → NamedAnswer finite (given && (low || other)) solved.value)
    → NamedAnswer finite (given && (low || other))
    (if given then retry else solve_cubic input measured c).value
orderings-one finite given low other retry solved input measured c f is turn =
    let none = given && (low || other) in
    ordering-one finite given none retry input measured c f
    (λ g.
    subst⁻¹ (NamedAnswer finite none) is
    (either_way (λ (m : Traced Answer). NamedAnswer finite none m.value) low
    (λ l. refused-2 f (and_i given (low || other) g (or_left low other l)) (refused-so 2))
    (λ n. turn n
    (λ o. refused-2 f (and_i given (low || other) g (or_right low other o)) (refused-so 2))
    (λ u. not-both-right given (low || other) (neither low other n u)))))
    (not-both-left given (low || other))

-- ---- of the eighteen doubles
module _ (input : P3pInput) (finite : T (input_finite input)) where
  given-one : OneAnswer input (solve_ordered 1 input input.world input.bearings).value
  unfolding solve_ordered ordered_or best_or no_ordering ordering_unusable
  given-one =
      let best = (best_permutation input).value in
      let low : Bool = le best.condition (mul binary64 sixty_four epsilon) in
      let other : Bool = ordering_unusable best.world best.bearings in
      orderings-one (input_finite input) (ordering_unusable input.world input.bearings) low
      other (best_or (solve_ordered 0) input) (solve_ordered 0 input best.world best.bearings)
      input _ _ finite refl
      (λ n again usable.
      ordering-one (input_finite input) other (no_ordering input) (pure (refused 2)) input _ _ finite
      again usable)

pub one_answer : (world : World) (bearings : Bearings)
    → OneAnswer (record { world = world; bearings = bearings }) (solve world bearings).value
unfolding solve
one_answer world bearings =
    let input : P3pInput = record { world = world; bearings = bearings } in
    either_way (λ (m : Traced Answer). OneAnswer input m.value) (not (input_finite input))
    (λ not-Finite. refused-1 not-Finite (refused-so 1))
    (λ finite. given-one input (T_not-not (input_finite input) finite))

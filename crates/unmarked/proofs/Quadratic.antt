-- The quadratic gives the same two roots in the same order, or the same refusal, where its pair is
-- told apart and where it is not. Assumes nothing.
use Rattle.std.proofs.Common.{ℕ, Bool, true, false, not, ◌||◌}
use lib.Ieee.{Float, neg, lt, eq}
use lib.Ieee.Scale.{finite}
use Rattle.ieee754.specs.Literal.{plus_zero, half}
use Rattle.ieee754.specs.Magnitude.{abs}
use Rattle.ieee754.specs.CopySign.{copysign}
use Rattle.ieee754.specs.Maximum.{max}
use Rattle.ieee754.specs.Traced.{Traced, with_some, ⊝◌, √◌, !◌, ◌⊗◌, ◌⊘◌, ◌⊕◌}
use Rattle.ieee754.proofs.Tests.{either_way}
use Rattle.polynomial.specs.Answer.{pair_of}
use Rattle.polynomial.specs.Quadratic.{discriminant_of, band_of, double_root, quadratic_pair}
use Rattle.polynomial.specs.Quadratic.{quadratic_real_monic_computed, quadratic_real_monic}
use Rattle.polynomial.specs.declared.Roots.{Roots}
use Rattle.polynomial.specs.declared.Roots.TheVariants.{Two, Double, Lifted, Refused}
use Rattle.polynomial.specs.declared.pair.RootPair.{RootPair}
use Rattle.unmarked.specs.Quadratic as before
use Rattle.unmarked.specs.Types as unmarked
use Rattle.unmarked.proofs.Forgets.{Forgets, pure, if◌then◌else◌, ◌>>≡◌}

pub data SameRoots : Roots → unmarked.Roots → Type 0 where
  two : (x y : Float) → SameRoots (Two x y) (unmarked.Two x y)
  double : (x : Float) → SameRoots (Double x) (unmarked.Two x x)
  lifted : (x : Float) → SameRoots (Lifted x) (unmarked.Two x x)
  refused : (n : ℕ) → SameRoots (Refused n) (unmarked.Refused n)

-- what follows the roots, lifted or not
pub with_pair-forgets : {A B : Type 0} {R : A → B → Type 0} {none : Traced A} {none' : Traced B}
    {k' : Float → Float → Traced B} {r : Roots} {r' : unmarked.Roots} (k : RootPair → Traced A)
    → SameRoots r r'
    → Forgets R none none'
    → ((x y : Float) (lifted : Bool)
    → Forgets R (k (record { first = x; second = y; lifted = lifted })) (k' x y))
    → Forgets R (with_some (pair_of r) none k) (before.with_pair r' none' k')
with_pair-forgets k (two x y) none next = next x y false
with_pair-forgets k (double x) none next = next x x false
with_pair-forgets k (lifted x) none next = next x x true
with_pair-forgets k (refused n) none next = none

double_root-forgets : (root computed : Float)
    → SameRoots (double_root root computed) (unmarked.Two root root)
unfolding double_root
double_root-forgets root computed =
    either_way (λ (r : Roots). SameRoots r (unmarked.Two root root)) (lt computed plus_zero)
    (λ _. lifted root) (λ _. double root)

quadratic_pair-forgets : (b c computed : Float)
    → Forgets SameRoots
    (quadratic_pair b c computed)
    (before.quadratic_pair b c (max computed plus_zero))
unfolding quadratic_pair before.quadratic_pair
quadratic_pair-forgets b c computed =
    let discriminant = max computed plus_zero in
    if eq discriminant plus_zero then (
    ⊝ ! half ⊗ ! b >>≡ λ root.
    pure (double_root-forgets root computed))
    else (
    √ ! discriminant >>≡ λ root.
    ⊝ ! half ⊗ (! b ⊕ ! (copysign root b)) >>≡ λ q.
    if eq q plus_zero then pure (two plus_zero plus_zero)
    else (
    ! c ⊘ ! q >>≡ λ other.
    pure (two q other)))

pub quadratic_real_monic-forgets : (b c : Float)
    → Forgets SameRoots (quadratic_real_monic b c) (before.quadratic_real_monic b c)
unfolding quadratic_real_monic before.quadratic_real_monic quadratic_real_monic_computed
    before.quadratic_real_monic_computed
quadratic_real_monic-forgets b c =
    if not (finite b) || not (finite c) then pure (refused 4)
    else (
    discriminant_of b c >>≡ λ discriminant.
    band_of b (abs c) >>≡ λ tolerance.
    if lt discriminant (neg tolerance) || not (finite discriminant) then pure (refused 5)
    else quadratic_pair-forgets b c discriminant)

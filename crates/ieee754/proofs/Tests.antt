-- Two or three tests by their truth, and what holds of both values of a choice. Assumes nothing.
use Rattle.std.specs.Prelude.{if◌then◌else◌}
use mathlib.Core.Path.{◌≡◌, refl}
use mathlib.Core.Bool.{Bool, true, false, not, cond, ◌&&◌, ◌||◌}
use lib.Dec.{T}
use lib.Ieee.Fits.{and_i, and_l, and_r}
use Rattle.ieee754.specs.Traced.{Traced, pure}

-- two tests of which one does not pass
pub not-both-left : (a b : Bool) → T (not a) → T (not (a && b))
not-both-left true b h = absurd h
not-both-left false b h = tt

pub not-both-right : (a b : Bool) → T (not b) → T (not (a && b))
not-both-right true b h = h
not-both-right false b h = tt

-- none of two passes, and one of two
pub neither : (a b : Bool) → T (not a) → T (not b) → T (not (a || b))
neither true b h k = absurd h
neither false b h k = k

pub or_left : (a b : Bool) → T a → T (a || b)
or_left true b t = tt
or_left false b t = absurd t

pub or_right : (a b : Bool) → T b → T (a || b)
or_right true b t = tt
or_right false b t = t

-- a test that ends at its left side where that holds, by its value
pub or-value : (a : Bool) (m : Traced Bool) → (if a then pure true else m).value ≡ a || m.value
or-value true m = refl
or-value false m = refl

-- three tests that all pass
pub three : (a b c : Bool) → T (a && b && c) → T a × T b × T c
three a b c t = let l = and_l (a && b) c t in (and_l a b l, and_r a b l, and_r (a && b) c t)

pub all_three : (a b c : Bool) → T a → T b → T c → T (a && b && c)
all_three a b c x y z = and_i (a && b) c (and_i a b x y) z

-- what holds in both cases of a test holds of its `if`
pub either_way : {A : Type 0} (P : A → Type 0) (b : Bool) {x y : A}
    → (T b → P x)
    → (T (not b) → P y)
    → P (if b then x else y)
either_way P true f g = f tt
either_way P false f g = g tt

-- and what holds of both values of a `cond` holds of it
pub cond_either : {A : Type 0} (P : A → Type 0) (b : Bool) {x y : A} → P x → P y → P (cond b x y)
cond_either P true p q = p
cond_either P false p q = q

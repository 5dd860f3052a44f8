-- That the choice gives one answer, as specs/OneAnswer.antt states it, by induction over the poses:
-- what holds of the poses passed so far holds with one more (`with-one`). Assumes nothing.
use mathlib.Core.Path.{◌≡◌, refl, sym, ap, ◌∙◌, subst}
use mathlib.Core.Bool.{not}
use mathlib.Core.List.{List, [], ◌∷◌, ◌++◌, append-nil, append_assoc}
use Prim.Native.Nat.{ℕ, ◌+◌, min}
use native.Mathlib.Nat.{min-le_left, min-le_right}
use native.Mathlib.Omega.{arith}
use lib.Dec.{T, T_not}
use lib.Ieee.{Float, lt}
use lib.Ieee.Scale.{finite}
use lib.ListN.{length, take, length-append, length-take}
use Rattle.ieee754.specs.Literal.{plus_zero}
use Rattle.ieee754.specs.Traced.{Traced}
use Rattle.ieee754.proofs.Tests.{either_way}
use Rattle.ieee754_laws.proofs.LtLaws.{lt-asym, lt-le-trans}
use Rattle.choice.specs.Score.{score}
use Rattle.choice.specs.Choose.{lower, better, choose_among, choose}
use Rattle.choice.specs.OneAnswer.{Each, stated, depth, squared_tangent}
use Rattle.choice.specs.OneAnswer.{HasFiniteScore, NoFiniteScore, Above, NotBelow, Lowest}
use Rattle.choice.specs.OneAnswer.{OneAnswer, refused-10, chosen}
use Rattle.choice.specs.Types.{Vector3, Pose, Best, Option, Result, Ok, Err}

-- ---- what holds of each
pub each-also : (P Q : Pose → Type 0)
    → ((pose : Pose) → P pose → Q pose)
    → (poses : List Pose)
    → Each P poses
    → Each Q poses
each-also P Q f [] h = tt
each-also P Q f (pose ∷ poses) h = (f pose h.0, each-also P Q f poses h.1)

each_append : (P : Pose → Type 0) (xs ys : List Pose) → Each P xs → Each P ys → Each P (xs ++ ys)
each_append P [] ys h k = k
each_append P (x ∷ xs) ys h k = (h.0, each_append P xs ys h.1 k)

module _ (target bearing : Vector3) where
  -- ---- a pose has a finite score, which is taken up, or it has none
  scored-either : (P : Result Best ℕ → Type 0) (pose : Pose) (best : Result Best ℕ) (place : ℕ)
      → ((x : Float) → HasFiniteScore target bearing pose x → P (lower best place x))
      → (NoFiniteScore target bearing pose → P best)
      → P (better best place (score pose target bearing).value)
  unfolding better score
  scored-either P pose best place f g =
      let x = squared_tangent target bearing pose in
      let ahead = lt plus_zero (depth target bearing pose) in
      let not-ahead : T (not ahead) → NoFiniteScore target bearing pose =
      λ n y h. T_not ahead n h.in-front in
      let not_finite : T (not (finite x)) → NoFiniteScore target bearing pose =
      λ n y h. T_not (finite x) n (subst (λ (z : Float). T (finite z)) h.score-is
      h.score-finite) in
      either_way (λ (s : Traced (Option Float)). P (better best place s.value)) ahead
      (λ a. either_way P (finite x)
      (λ X. f x (record { in-front = a; score-is = refl; score-finite = X }))
      (λ n. g (not_finite n)))
      (λ n. g (not-ahead n))

  -- ---- the choice among the poses passed so far
  abbrev Among : List Pose → Result Best ℕ → Type 0
  Among passed (Err n) = (n ≡ 10) × Each (NoFiniteScore target bearing) passed
  Among passed (Ok best) = Lowest target bearing passed best.place best.score

  module _ (passed : List Pose) (pose : Pose) where
    abbrev more : List Pose
    more = passed ++ (pose ∷ [])

    -- a score takes the choice where it is below each one before it
    takes : (value : Float)
        → HasFiniteScore target bearing pose value
        → Each (Above target bearing value) passed
        → Lowest target bearing more (length passed + 1) value
    takes value s h = record {
      before = passed;
      best = pose;
      after = [];
      poses-are = refl;
      place_is = refl;
      has-score = s;
      earlier = h;
      later = tt;
    }

    -- the choice so far stays where the pose has no score or one that is not below
    stays : {at : ℕ} {lowest : Float}
        → Lowest target bearing passed at lowest
        → NotBelow target bearing lowest pose
        → Lowest target bearing more at lowest
    stays {lowest = lowest} w h = record {
      before = w.before;
      best = w.best;
      after = w.after ++ (pose ∷ []);
      poses-are =
          ap (λ (xs : List Pose). xs ++ (pose ∷ [])) w.poses-are
          ∙ append_assoc w.before (w.best ∷ w.after) (pose ∷ []);
      place_is = w.place_is;
      has-score = w.has-score;
      earlier = w.earlier;
      later =
          each_append (NotBelow target bearing lowest) w.after (pose ∷ []) w.later (h, tt);
    }

    -- below the lowest, it is below each
    below_each : {at : ℕ} {lowest : Float} (value : Float)
        → T (finite value)
        → Lowest target bearing passed at lowest
        → T (lt value lowest)
        → Each (Above target bearing value) passed
    below_each {lowest = lowest} value f w h =
        let L = w.has-score.score-finite in
        let before : Each (Above target bearing value) w.before =
        each-also (Above target bearing lowest) (Above target bearing value)
        (λ _ above x s.
        lt-le-trans value lowest x f L s.score-finite h
        (lt-asym lowest x L s.score-finite (above x s)))
        w.before w.earlier in
        let best : Above target bearing value w.best = λ x s.
        subst (λ (y : Float). T (lt value y)) (w.has-score.score-is ∙ sym s.score-is) h in
        let after : Each (Above target bearing value) w.after =
        each-also (NotBelow target bearing lowest) (Above target bearing value)
        (λ _ not-below x s. lt-le-trans value lowest x f L s.score-finite h (not-below x s))
        w.after w.later in
        subst (Each (Above target bearing value)) (sym w.poses-are)
        (each_append (Above target bearing value) w.before (w.best ∷ w.after) before
        (best, after))

    -- with a finite score, from the choice so far
    with-score : (best : Result Best ℕ) (x : Float)
        → HasFiniteScore target bearing pose x
        → Among passed best
        → Among more (lower best (length passed + 1) x)
    unfolding lower
    with-score (Err n) x s h =
        takes x s
        (each-also (NoFiniteScore target bearing) (Above target bearing x)
        (λ _ none y t. absurd (none y t)) passed h.1)
    with-score (Ok held) x s w =
        either_way (Among more) (lt x held.score) (λ l. takes x s (below_each x s.score-finite w l))
        (λ n. stays w (λ y t.
        subst (λ (z : Float). T (not (lt z held.score))) (s.score-is ∙ sym t.score-is) n))

    without : (best : Result Best ℕ)
        → NoFiniteScore target bearing pose
        → Among passed best
        → Among more best
    without (Err n) none h =
        (h.0, each_append (NoFiniteScore target bearing) passed (pose ∷ []) h.1 (none, tt))
    without (Ok held) none w = stays w (λ y t. absurd (none y t))

    with-one : (best : Result Best ℕ)
        → Among passed best
        → Among more (better best (length passed + 1) (score pose target bearing).value)
    with-one best h =
        scored-either (Among more) pose best (length passed + 1) (λ x s. with-score best x s h)
        (λ none. without best none h)

  -- ---- all poses
  with_all : (poses passed : List Pose) (best : Result Best ℕ)
      → Among passed best
      → Among (passed ++ poses) (choose_among poses (length passed) target bearing best).value
  unfolding choose_among
  with_all [] passed best h = rw append-nil h
  with_all (pose ∷ poses) passed best h =
      let longer : length (passed ++ (pose ∷ [])) ≡ length passed + 1 =
      length-append passed (pose ∷ []) in
      let next = better best (length passed + 1) (score pose target bearing).value in
      let rest = with_all poses (passed ++ (pose ∷ [])) next (with-one passed pose best h) in
      rw (append_assoc passed (pose ∷ []) poses, longer) at rest

  -- what held of all the poses, of the answer's number, place and score
  concluded : (poses : List Pose) (count : ℕ) (answer : Result Best ℕ)
      → Among (stated poses count) answer
      → OneAnswer target bearing poses count answer
  concluded poses count (Err n) h = refused-10 h.1 h.0 refl refl
  concluded poses count (Ok best) w =
      let n = min count 4 in
      let among : length w.before + length (w.best ∷ w.after) ≡ min n (length poses) =
      sym (length-append w.before (w.best ∷ w.after))
      ∙ ap length (sym w.poses-are)
      ∙ length-take n poses in
      let place = w.place_is in
      let l = min-le_left n (length poses) in
      let r = min-le_right n (length poses) in
      chosen best.score w refl (omega arith) (omega arith) (omega arith) refl

  pub one_answer : (poses : List Pose) (count : ℕ)
      → OneAnswer target bearing poses count (choose poses count target bearing).value
  unfolding choose
  one_answer poses count =
      concluded poses count _ (with_all (take (min count 4) poses) [] (Err 10) (refl, tt))

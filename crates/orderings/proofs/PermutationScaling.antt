-- The same permutation is taken in the two runs, since the conditions are equal. Assumes nothing.
use mathlib.Core.Path.{◌≡◌, refl}
use mathlib.Core.List.{List, Forall₂}
use lib.IntN.{ℤ, pos}
use lib.Ieee.{Float, lt}
use Rattle.ieee754.specs.Scaling.{Both}
use Rattle.ieee754_laws.proofs.Degrees.{pure, ◌>>=◌, choose}
use Rattle.linalg.specs.VectorScaling.{AtVector}
use Rattle.frames.specs.FrameScaling.{AtWorld}
use Rattle.orderings.specs.Permutation.{with_condition, better, best_of, best_permutation}
use Rattle.orderings.specs.Types.{Vector3, World, Bearings, Conditioned}
use Rattle.orderings.proofs.CubicScaling.{leading_cubic_condition-same}

pub record AtConditioned (k : ℤ) (c c' : Conditioned) : Type 0 where
  pub condition : c.condition ≡ c'.condition
  pub world : AtWorld k c.world c'.world
  pub bearings : c.bearings ≡ c'.bearings

abbrev condition : Conditioned → Float
condition c = c.condition

module _ {k : ℤ} where
  with_condition-scales : {p p' q q' r r' : Vector3}
      → AtVector k (pos 1) p p'
      → AtVector k (pos 1) q q'
      → AtVector k (pos 1) r r'
      → (f0 f1 f2 : Vector3)
      → Both (AtConditioned k) (with_condition p q r f0 f1 f2) (with_condition p' q' r' f0 f1 f2)
  unfolding with_condition
  with_condition-scales p q r f0 f1 f2 =
      let bearings : Bearings = record { f0 = f0; f1 = f1; f2 = f2 } in
      let w : AtWorld k _ _ = record { p0 = p; p1 = q; p2 = r } in
      leading_cubic_condition-same bearings w >>= λ _ _ condition.
      pure (record { condition = condition; world = w; bearings = refl {a = bearings} })

  better-scales : {b b' c c' : Conditioned}
      → AtConditioned k b b'
      → AtConditioned k c c'
      → AtConditioned k (better condition b c) (better condition b' c')
  unfolding better
  better-scales best next =
      choose (AtConditioned k) (λ i. lt (best.condition i) (next.condition i)) next best

  best_of-scales : {b b' : Conditioned} {cs cs' : List Conditioned}
      → AtConditioned k b b'
      → Forall₂ (AtConditioned k) cs cs'
      → AtConditioned k (best_of condition b cs) (best_of condition b' cs')
  unfolding best_of
  best_of-scales best Forall₂.nil = best
  best_of-scales {b = b} {b' = b'} best (Forall₂.cons {a = a} {b = a'} next rest) =
      best_of-scales {b = better condition b a} {b' = better condition b' a'}
      (better-scales best next) rest

  pub best_permutation-scales : {w w' : World} (bearings : Bearings)
      → AtWorld k w w'
      → Both (AtConditioned k)
      (best_permutation (record { world = w; bearings = bearings }))
      (best_permutation (record { world = w'; bearings = bearings }))
  unfolding best_permutation
  best_permutation-scales bearings w =
      let record { f0 = f0; f1 = f1; f2 = f2 } = bearings in
      with_condition-scales w.p0 w.p2 w.p1 f0 f2 f1 >>= λ _ _ c021.
      with_condition-scales w.p1 w.p0 w.p2 f1 f0 f2 >>= λ _ _ c102.
      with_condition-scales w.p1 w.p2 w.p0 f1 f2 f0 >>= λ _ _ c120.
      with_condition-scales w.p2 w.p0 w.p1 f2 f0 f1 >>= λ _ _ c201.
      with_condition-scales w.p2 w.p1 w.p0 f2 f1 f0 >>= λ _ _ c210.
      pure (best_of-scales c021
      (Forall₂.cons c102 (Forall₂.cons c120 (Forall₂.cons c201 (Forall₂.cons c210 Forall₂.nil)))))

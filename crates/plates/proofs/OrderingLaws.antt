-- The best of the other orderings by stored edges is that of `best_permutation` where they are the
-- squared edges of the points: an edge reversed is as long. Assumes nothing.
use Rattle.std.specs.Prelude.{if◌then◌else◌}
use mathlib.Core.Path.{◌≡◌, refl, ap, ap₂, subst⁻¹}
use mathlib.Core.Bool.{Bool, true, false}
use mathlib.Core.List.{List, Forall₂}
use lib.Ieee.{Float, lt}
use Rattle.linalg.specs.Vectors.{vec_sub, norm_squared}
use Rattle.linalg.proofs.Reversed.{reversed}
use Rattle.frames.specs.Points.{points}
use Rattle.orderings.specs.Edges.{edge_vectors, squared_edges}
use Rattle.orderings.specs.Condition.{condition_of_edges, leading_cubic_condition}
use Rattle.orderings.specs.Permutation as permutation
use Rattle.plates.specs.Target.{number_of_target, target, ray, opposite}
use Rattle.plates.specs.Ordering.{ordered_rays, ordered_edges, ordering}
use Rattle.plates.specs.Ordering.{best_ordering, permutation as ordered}
use Rattle.plates.specs.Types.{Vector3, World, SquaredEdges, P3pInput, Conditioned}
use Rattle.plates.specs.Types.{Ordering, Permutation, Target, First, Second, Third}

abbrev pub edges_of : World → SquaredEdges
edges_of world = (squared_edges (edge_vectors world).value).value

abbrev squared : Vector3 → Vector3 → Float
squared p q = (norm_squared (vec_sub p q).value).value

module _ (input : P3pInput) where
  abbrev point : Target → Vector3
  point which = target input.world (number_of_target which)

  abbrev pub ordered_world : Permutation → World
  ordered_world order = points (point order.0) (point order.1) (point order.2)

  abbrev stored : Permutation → SquaredEdges
  stored order = ordered_edges (edges_of input.world) order

  -- an ordering by the stored edges is that of the points, whose squared edges they are
  pub record SameOrdering (c : Conditioned) (o : Ordering) : Type 0 where
    pub condition : c.condition ≡ o.condition
    pub world : c.world ≡ ordered_world o.order
    pub bearings : c.bearings ≡ ordered_rays input.bearings o.order
    pub squares : edges_of (ordered_world o.order) ≡ stored o.order

  -- ---- one ordering, where its edges are the stored ones
  one-ordering : (i j k : Target)
      → squared (point i) (point j) ≡ (stored (ordered i j k)).a01
      → squared (point i) (point k) ≡ (stored (ordered i j k)).a02
      → squared (point j) (point k) ≡ (stored (ordered i j k)).a12
      → SameOrdering
      (permutation.with_condition (point i) (point j) (point k) (ray input.bearings i)
      (ray input.bearings j) (ray input.bearings k)).value
      (ordering (edges_of input.world) input.bearings (ordered i j k)).value
  unfolding permutation.with_condition leading_cubic_condition edge_vectors squared_edges ordering
      ordered_rays
  one-ordering i j k first second third =
      let order = ordered i j k in
      let rays = ordered_rays input.bearings order in
      let same : edges_of (ordered_world order) ≡ stored order =
      λ at. record { a01 = first at; a02 = second at; a12 = third at } in
      record {
        condition = ap (λ (e : SquaredEdges). (condition_of_edges e rays).value) same;
        world = refl;
        bearings = refl;
        squares = same;
      }

  -- ---- the best of several
  pick_same : (x : Bool) {b c : Conditioned} {o q : Ordering}
      → SameOrdering b o
      → SameOrdering c q
      → SameOrdering (if x then c else b) (if x then q else o)
  pick_same true best next = next
  pick_same false best next = best

  abbrev condition : Ordering → Float
  condition o = o.condition

  abbrev own_condition : Conditioned → Float
  own_condition c = c.condition

  better-same : {b c : Conditioned} {o q : Ordering}
      → SameOrdering b o
      → SameOrdering c q
      → SameOrdering (permutation.better own_condition b c) (permutation.better condition o q)
  unfolding permutation.better
  better-same {b} {c} {o} {q} best next =
      let greater = lt o.condition q.condition in
      subst⁻¹ (λ (x : Bool). SameOrdering (if x then c else b) (if greater then q else o))
      (ap₂ lt best.condition next.condition) (pick_same greater best next)

  best_of-same : {b : Conditioned} {o : Ordering} {cs : List Conditioned} {os : List Ordering}
      → SameOrdering b o
      → Forall₂ SameOrdering cs os
      → SameOrdering (permutation.best_of own_condition b cs) (permutation.best_of condition o os)
  unfolding permutation.best_of
  best_of-same best Forall₂.nil = best
  best_of-same {b = b} {o = o} best (Forall₂.cons {a = a} {b = a'} next rest) =
      best_of-same {b = permutation.better own_condition b a} {o = permutation.better condition o a'}
      (better-same best next) rest

  pub best-same :
      SameOrdering (permutation.best_permutation input).value
      (best_ordering (edges_of input.world) input.bearings).value
  unfolding permutation.best_permutation best_ordering target ray opposite ordered_edges edge_vectors
      squared_edges
  best-same =
      let record { p0 = p0; p1 = p1; p2 = p2 } = input.world in
      best_of-same (one-ordering First Third Second refl refl (reversed p2 p1))
      (Forall₂.cons (one-ordering Second First Third (reversed p1 p0) refl refl)
      (Forall₂.cons (one-ordering Second Third First refl (reversed p1 p0) (reversed p2 p0))
      (Forall₂.cons (one-ordering Third First Second (reversed p2 p0) (reversed p2 p1) refl)
      (Forall₂.cons (one-ordering Third Second First (reversed p2 p1) (reversed p2 p0) (reversed p1 p0))
      Forall₂.nil))))

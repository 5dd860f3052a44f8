-- Two orderings that are measured alike, but for where the inverse basis comes from, are solved
-- alike where the basis is the same. Assumes nothing.
use mathlib.Core.Path.{◌≡◌, refl, ap, ◌∙◌}
use mathlib.Core.List.{List, [], ◌∷◌}
use lib.Ieee.{Float}
use lib.ListN.{take}
use Rattle.ieee754.specs.Traced.{Traced, pure, ◌>>=◌, with_some, ◌⊘◌, !◌}
use Rattle.polynomial.specs.declared.Roots.{Roots}
use Rattle.polynomial.specs.declared.Roots.TheVariants as roots
use Rattle.polynomial.specs.Answer.{with_root}
use Rattle.polynomial.specs.PolishedRoot.{polished_cubic_root}
use Rattle.p3p_common.specs.declared.solutions.Solutions.{Solutions}
use Rattle.p3p_common.specs.Slots.{empty}
use Rattle.eigen.specs.declared.known_zero.Eigensystem.{Eigensystem}
use Rattle.eigen.specs.KnownZero.{eig_with_known_zero}
use Rattle.orderings.specs.declared.cubic.Coefficients.{Coefficients}
use Rattle.orderings.specs.Basis.{basis_of}
use Rattle.depths.specs.declared.candidates.Candidate.{Candidate}
use Rattle.depths.specs.declared.candidates.Candidates.{Candidates}
use Rattle.depths.specs.Matrix.{singular_matrix}
use Rattle.depths.specs.RatioOf.{ratio_of}
use Rattle.depths.specs.Signs.{candidates}
use Rattle.lambdatwist.specs.Poses.{push_depths, pose_turn, pose_turns, poses}
use Rattle.lambdatwist.specs.Solve.{if_kept, stopped, solve_candidates, solve_root, solve_cubic}
use Rattle.plates.specs.Types.{Matrix3, P3pInput, Option, Some, None, Source, Measured, Answer}

-- two ways to one answer
pub record Same (m m' : Traced Answer) : Type 0 where
  pub value : m.value ≡ m'.value

pub as-it-is : {m : Traced Answer} → Same m m
as-it-is = record { value = refl }

-- ---- what follows a root, and a step that can stop, by two continuations that give the same

with_root-same : (r : Roots) {k k' : Float → Traced Answer}
    → ((g : Float) → Same (k g) (k' g))
    → Same (with_root r stopped k) (with_root r stopped k')
with_root-same (roots.One g) same = same g
with_root-same (roots.Two x y) same = as-it-is
with_root-same (roots.Double x) same = as-it-is
with_root-same (roots.Lifted x) same = as-it-is
with_root-same (roots.Refused n) same = as-it-is

with_some-same : {A : Type 0} (o : Option A) {k k' : A → Traced Answer}
    → ((a : A) → Same (k a) (k' a))
    → Same (with_some o stopped k) (with_some o stopped k')
with_some-same (Some a) same = same a
with_some-same None same = as-it-is

-- ---- the stages, by two sources
module _ (input : P3pInput) (m : Measured) where
  abbrev pub from : Source → Measured
  from source = record {
    p0 = m.p0;
    source = source;
    squares = m.squares;
    bearings = m.bearings;
    cosines = m.cosines;
    factors = m.factors;
  }

  -- the turns do not look at the source
  turns_same : (s s' : Source) (inverse : Matrix3) (l : List Candidate) (output : Solutions)
      → (pose_turns input (from s) inverse l output).value
      ≡ (pose_turns input (from s') inverse l output).value
  unfolding pose_turns pose_turn push_depths
  turns_same s s' inverse [] output = refl
  turns_same s s' inverse (c ∷ l) output =
      turns_same s s' inverse l (pose_turn input (from s) inverse output c).value

  module _ (s s' : Source) (same : (basis_of s).value ≡ (basis_of s').value) where
    candidates-same : (found : Candidates)
        → Same (solve_candidates input (from s) found) (solve_candidates input (from s') found)
    unfolding solve_candidates poses
    candidates-same found =
        let after : Source → Matrix3 → Traced Answer
        = λ source inverse.
        poses input (from source) inverse found >>= λ solutions. pure (if_kept solutions) in
        let kept = take found.count found.slots in
        record {
          value = ap (λ (b : Option Matrix3). (with_some b stopped (after s)).value) same
              ∙ (with_some-same (basis_of s').value {k = after s} {k' = after s'}
              (λ inverse. record { value = ap if_kept (turns_same s s' inverse kept empty) })).value;
        }

    root-same : (g : Float) → Same (solve_root input (from s) g) (solve_root input (from s') g)
    unfolding solve_root
    root-same g =
        let matrix = (singular_matrix m.squares m.factors g).value in
        let found : Eigensystem → Float → Candidates
        = λ e x. (candidates m.squares m.factors e.vectors x e.lifted).value in
        let after : Source → Eigensystem → Float → Traced Answer
        = λ source e x.
        candidates m.squares m.factors e.vectors x e.lifted
        >>= solve_candidates input (from source) in
        let next : Source → Eigensystem → Traced Answer
        = λ source e.
        ratio_of e.values.x e.values.y >>= λ ratio. with_some ratio stopped (after source e) in
        record {
          value = (with_some-same (eig_with_known_zero matrix).value {k = next s} {k' = next s'}
              (λ e. record {
                value = (with_some-same (ratio_of e.values.x e.values.y).value
                    {k = after s e} {k' = after s' e}
                    (λ x. record { value = (candidates-same (found e x)).value })).value;
              })).value;
        }

    pub cubic-same : (c : Coefficients)
        → Same (solve_cubic input (from s) c) (solve_cubic input (from s') c)
    unfolding solve_cubic
    cubic-same c =
        let over : Float → Float = λ x. (! x ⊘ ! c.cubic3).value in
        record {
          value = (with_root-same
              (polished_cubic_root (over c.cubic2) (over c.cubic1) (over c.cubic0)).value
              {k = solve_root input (from s)} {k' = solve_root input (from s')} root-same).value;
        }

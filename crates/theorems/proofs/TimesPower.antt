-- `Times k x x'`, over whole numbers, says of two doubles that x' is `scale k x` (`times-at`), and
-- of a finite x with `scale k x` it holds (`at-times`). Assumes nothing.
use mathlib.Core.Path.{◌≡◌, refl, sym, ap, ◌∙◌, subst}
use Prim.Native.Nat.{ℕ, zero, suc, ◌<◌}
use native.Mathlib.Nat.{lt_irrefl, zero-lt-suc, mul-pos}
use native.Mathlib.Omega.{arith}
use mathlib.Core.Bool.{Bool}
use lib.IntN.{ℤ, pos, ◌+ℤ◌}
use lib.Dec.{T}
use lib.Ieee.{Float, nan, inf, fin, binary64, fits}
use lib.Ieee.Fits.{up_pos, down_pos}
use lib.Ieee.Scale.{finite}
use Rattle.ieee754.specs.Scaling.{scale, At}
use Rattle.ieee754.proofs.Unique.{fits-parts, fits-unique, odd-unique}
use Rattle.ieee754_laws.proofs.Powers.{ℤ-once, moved-ratio, ratio-once}
use Rattle.theorems.specs.ScalingRule.{Times}

module _ (k : ℤ) where
  scaled : (x x' : Float)
      → T (fits binary64 x)
      → T (fits binary64 x')
      → Times k x x'
      → x' ≡ scale k x
  unfolding scale
  scaled (fin s zero e) (fin t zero d) f g h =
      fits-unique binary64 t zero d zero e g
      (subst (λ (b : Bool). T (fits binary64 (fin b zero e))) h.0 f) (omega arith)
      ∙ ap (λ (b : Bool). fin b zero e) (sym h.0)
  scaled (fin s zero e) (fin t (suc n) d) f g h =
      absurd (lt_irrefl 0 (subst (λ (x : ℕ). 0 < x) (h.1 ∙ omega arith)
      (mul-pos (mul-pos (zero-lt-suc n) (up_pos d)) (mul-pos (down_pos e) (down_pos k)))))
  scaled (fin s (suc m) e) (fin t zero d) f g h =
      absurd (lt_irrefl 0 (subst (λ (x : ℕ). 0 < x) (sym h.1 ∙ omega arith)
      (mul-pos (mul-pos (zero-lt-suc m) (up_pos e)) (mul-pos (down_pos d) (up_pos k)))))
  scaled (fin s (suc m) e) (fin t (suc n) d) f g h =
      let r =
      odd-unique (suc n) (suc m) d (e +ℤ k) (fits-parts t n d g).odd (fits-parts s m e f).odd
      (ratio-once (record { den = down_pos e; den' = down_pos d; cross = h.1 })
      (moved-ratio k (suc m) e)) in
      λ i. fin (sym h.0 i) (r.0 i) (r.1 i)
  scaled (fin s zero e) (inf t) f g h = absurd h
  scaled (fin s zero e) nan f g h = absurd h
  scaled (fin s (suc m) e) (inf t) f g h = absurd h
  scaled (fin s (suc m) e) nan f g h = absurd h
  scaled (inf s) y f g h = absurd h
  scaled nan y f g h = absurd h

  pub times-at : (x x' : Float)
      → T (fits binary64 x)
      → T (fits binary64 x')
      → Times k x x'
      → At k (pos 1) x x'
  times-at x x' f g h =
      record { scaled = scaled x x' f g h ∙ ap (λ (t : ℤ). scale t x) (sym (ℤ-once k)) }

  pub times-scale : (x : Float) → T (finite x) → Times k x (scale k x)
  unfolding scale
  times-scale nan f = absurd f
  times-scale (inf s) f = absurd f
  times-scale (fin s m e) f = (refl, (moved-ratio k m e).cross)

  pub at-times : (x x' : Float) → T (finite x) → At k (pos 1) x x' → Times k x x'
  at-times x x' f h =
      subst (λ (y : Float). Times k x y)
      (sym (h.scaled ∙ ap (λ (t : ℤ). scale t x) (ℤ-once k))) (times-scale x f)

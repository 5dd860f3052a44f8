-- What the scaling rule asks of two worlds' coordinates, by tests that compute: that they are
-- doubles (`double-world`), and that the second's are 2 ^ k times the first's (`times-world`).
-- Assumes nothing.
use mathlib.Core.Bool.{Bool, false, ◌&&◌, beq}
use Prim.Native.Nat.{◌*◌}
use lib.IntN.{ℤ}
use lib.Dec.{T, eqb, eqb→eq}
use lib.Ieee.{Float, nan, inf, fin, binary64, fits, up, down}
use lib.Ieee.Fits.{and_l, and_r}
use denote.Floats.{is_true}
use Rattle.std.specs.Cmp.{booleans_Decides}
use Rattle.ieee754.proofs.Tests.{three}
use Rattle.linalg.specs.Doubles.{Doubles}
use Rattle.theorems.specs.ScalingRule.{Times, TimesVector, TimesWorld, DoubleWorld}
use Rattle.theorems.specs.Types.{Vector3, World}

-- ---- doubles
abbrev pub fits_vector : Vector3 → Bool
fits_vector v = fits binary64 v.x && fits binary64 v.y && fits binary64 v.z

abbrev pub fits_world : World → Bool
fits_world w = fits_vector w.p0 && fits_vector w.p1 && fits_vector w.p2

double-vector : (v : Vector3) → T (fits_vector v) → Doubles v
double-vector v h =
    let f = three (fits binary64 v.x) (fits binary64 v.y) (fits binary64 v.z) h in
    record { x = f.0; y = f.1; z = f.2 }

pub double-world : (w : World) → T (fits_world w) → DoubleWorld w
double-world w h =
    let f = three (fits_vector w.p0) (fits_vector w.p1) (fits_vector w.p2) h in
    record {
      p0 = double-vector w.p0 f.0;
      p1 = double-vector w.p1 f.1;
      p2 = double-vector w.p2 f.2;
    }

-- ---- times 2 ^ k
module _ (k : ℤ) where
  abbrev pub is_times : Float → Float → Bool
  is_times (fin s m e) (fin t n d) =
      beq s t && eqb (n * up d * (down e * down k)) (m * up e * (down d * up k))
  is_times (fin s m e) (inf t) = false
  is_times (fin s m e) nan = false
  is_times (inf s) y = false
  is_times nan y = false

  abbrev pub is_times_vector : Vector3 → Vector3 → Bool
  is_times_vector v v' =
      is_times v.x v'.x && is_times v.y v'.y && is_times v.z v'.z

  abbrev pub is_times_world : World → World → Bool
  is_times_world w w' =
      is_times_vector w.p0 w'.p0 && is_times_vector w.p1 w'.p1
      && is_times_vector w.p2 w'.p2

  times : (x y : Float) → T (is_times x y) → Times k x y
  times (fin s m e) (fin t n d) h =
      let sign = beq s t in
      let value = eqb (n * up d * (down e * down k)) (m * up e * (down d * up k)) in (
        (booleans_Decides s t).0 (is_true sign (and_l sign value h)),
        eqb→eq _ _ (and_r sign value h),
      )
  times (fin s m e) (inf t) h = h
  times (fin s m e) nan h = h
  times (inf s) y h = h
  times nan y h = h

  times-vector : (v v' : Vector3) → T (is_times_vector v v') → TimesVector k v v'
  times-vector v v' h =
      let t = three (is_times v.x v'.x) (is_times v.y v'.y) (is_times v.z v'.z) h in
      record {
        x = times v.x v'.x t.0;
        y = times v.y v'.y t.1;
        z = times v.z v'.z t.2;
      }

  pub times-world : (w w' : World) → T (is_times_world w w') → TimesWorld k w w'
  times-world w w' h =
      let t =
      three (is_times_vector w.p0 w'.p0) (is_times_vector w.p1 w'.p1)
      (is_times_vector w.p2 w'.p2) h in
      record {
        p0 = times-vector w.p0 w'.p0 t.0;
        p1 = times-vector w.p1 w'.p1 t.1;
        p2 = times-vector w.p2 w'.p2 t.2;
      }

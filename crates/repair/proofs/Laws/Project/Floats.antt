-- Tests of floats. Assumes nothing.
use mathlib.Core.Path.{◌≡◌, refl}
use lib.Ieee.{Float, nan, inf, fin}
use Rattle.std.specs.Float.{float_is_finite}
use Rattle.repair.specs.Project.{finite}

-- the library's test for finite floats is the definition's
pub finite_test : (x : Float) → float_is_finite x ≡ finite x
unfolding float_is_finite
finite_test nan = refl
finite_test (inf s) = refl
finite_test (fin s m e) = refl

-- The constant of the score. Assumes nothing.
use Rattle.std.proofs.Common.{◌≡◌, false, pos, refl}
use lib.Ieee.{fin}
use Rattle.geometry.specs.Root.{sqrt}
use Rattle.geometry.specs.Score.{R}

-- "R the f64 root of 432", which is 27 * 2 ^ 4
pub r-is : sqrt (fin false 27 (pos 4)) ≡ R
unfolding sqrt
r-is = refl

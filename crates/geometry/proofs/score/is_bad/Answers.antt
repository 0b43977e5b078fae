-- `geometry::score::is_bad` meets its contract: the literal is `tenth`. Assumes nothing.
use Rattle.std.proofs.Common.{refl}
use lib.Ieee.{of_bits}
use Rattle.geometry.proofs.score.is_bad.Goals as goal

pub returns : goal.returns
unfolding of_bits
returns c = refl

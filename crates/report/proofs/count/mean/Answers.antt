-- `report::count::mean` meets its contract: the literal is `four`. Assumes nothing.
use Rattle.std.proofs.Common.{refl}
use lib.Ieee.{of_bits}
use Rattle.report.proofs.count.mean.Goals as goal

pub returns : goal.returns
unfolding of_bits
returns c = refl

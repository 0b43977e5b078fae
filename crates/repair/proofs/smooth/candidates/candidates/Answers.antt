-- `candidates::candidates` meets its contract, one by one. Assumes nothing.
use Rattle.std.proofs.Common.{refl}
use lib.Ieee.{of_bits}
use Rattle.repair.proofs.smooth.candidates.candidates.Goals as goal

pub returns : goal.returns
unfolding of_bits
returns c = rw (c.along.ensures, c.along-2.ensures, c.along-3.ensures, c.sub-to_mean.ensures) refl

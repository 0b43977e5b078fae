-- `report::buffers::Buffers::new` meets its contract. Assumes nothing.
use Rattle.std.proofs.Common.{refl}
use lib.Ieee.{of_bits}
use Rattle.report.specs.Report.{blank}
use Rattle.report.proofs.buffers.Buffers.new.Goals as goal

pub returns : goal.returns
unfolding blank of_bits
returns c = refl

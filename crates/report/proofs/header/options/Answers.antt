-- `report::header::options` meets its contract. Assumes nothing.
use Rattle.report.specs.Block.{header_options}
use Rattle.report.proofs.header.options.Goals as goal

pub returns : goal.returns
unfolding header_options
returns c = cc

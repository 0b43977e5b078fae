-- `report::bytes::float` meets its contract. Assumes nothing.
use Rattle.report.specs.Bytes.{float_in}
use Rattle.report.proofs.bytes.float.Goals as goal

pub returns : goal.returns
unfolding float_in
returns c = cc

-- `report::bytes::point` meets its contract. Assumes nothing.
use Rattle.report.specs.Bytes.{point_from}
use Rattle.report.proofs.bytes.point.Goals as goal

pub returns : goal.returns
unfolding point_from
returns c = cc

-- `report::records::vertex_place` meets its contract. Assumes nothing.
use Rattle.std.proofs.Common.{refl, arith}
use Rattle.report.specs.Block.{vertex_place}
use Rattle.report.proofs.records.vertex_place.Goals as goal

pub returns : goal.returns
unfolding vertex_place
returns c = (refl, omega arith)

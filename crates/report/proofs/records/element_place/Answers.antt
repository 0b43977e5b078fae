-- `report::records::element_place` meets its contract. Assumes nothing.
use Rattle.std.proofs.Common.{refl, arith}
use Rattle.report.specs.Block.{element_place}
use Rattle.report.proofs.records.element_place.Goals as goal

pub returns : goal.returns
unfolding element_place
returns c = (refl, omega arith)

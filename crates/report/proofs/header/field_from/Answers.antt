-- `report::header::field_from` meets its contract, kind by kind. Assumes nothing.
use Rattle.report.specs.Block.{field_from}
use Rattle.report.proofs.header.field_from.Goals as goal

pub returns-in-Level : goal.returns-in-Level
unfolding field_from
returns-in-Level c = rw c.in-Level.is (cc)

pub returns-in-Plane : goal.returns-in-Plane
unfolding field_from
returns-in-Plane c = rw c.in-Plane.is (cc)

pub returns-in-Ball : goal.returns-in-Ball
unfolding field_from
returns-in-Ball c = rw c.in-Ball.is (cc)

-- `mesh::vertex::Points::is_bad_slot` meets its contract. Assumes nothing.
use Rattle.std.proofs.Common.{eq-eqb}
use Rattle.mesh.specs.Words.{points_in}
use Rattle.mesh.proofs.Laws.List.Bad.{bad-gone, bad-is}
use Rattle.mesh.proofs.vertex.Points.is_bad_slot.Goals as goal

pub returns-then-t-ne-GONE : goal.returns-then-t-ne-GONE
returns-then-t-ne-GONE c = bad-is (points_in c.args.self) c.args.t c.is_bad.result c.if-t-ne-GONE.true c.is_bad.ensures

pub returns-else-t-ne-GONE : goal.returns-else-t-ne-GONE
returns-else-t-ne-GONE c = rw (eq-eqb c.args.t.a 4294967295 c.if-t-ne-GONE.false) (bad-gone (points_in c.args.self) c.args.t c.if-t-ne-GONE.false)

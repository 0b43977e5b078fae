-- `mesh::link::boundary::boundary_ok_in` meets its contract. Assumes nothing.
use Rattle.std.proofs.Common.{◌∙◌}
use Rattle.mesh.proofs.Laws.LinkRows.Whole.{boundary-answer}
use Rattle.mesh.proofs.link.boundary.boundary_ok_in.Goals as goal

pub returns : goal.returns
returns c = λ a b r. (rw c.boundary_start.ensures at c.links_meet.ensures) ∙ boundary-answer a b c.args.m c.args.area.now r

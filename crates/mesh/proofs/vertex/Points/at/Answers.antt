-- `mesh::vertex::Points::at` meets its contract. Assumes nothing.
use Rattle.std.proofs.Common.{◌∙◌}
use Rattle.mesh.proofs.Laws.Intake.Reads.{point-of, no-point}
use Rattle.mesh.proofs.vertex.Points.at.Goals as goal

pub returns-then-i-self : goal.returns-then-i-self
returns-then-i-self c = c.point_at.ensures ∙ point-of c.args.self.count c.args.self.floats.now c.args.v c.if-i-self.true

pub returns : goal.returns
unfolding lib.Ieee.of_bits
returns c = no-point c.args.self.count c.args.self.floats.now c.args.v c.if-i-self.false

-- `mesh::vertex::point_at` meets its contract: past the end all three floats are +0.0. Assumes nothing.
use Rattle.mesh.specs.Words.{point_in}
use Rattle.mesh.proofs.Laws.Intake.Reads.{point-past}
use Rattle.mesh.proofs.vertex.point_at.Goals as goal

pub returns-then-points-v : goal.returns-then-points-v
unfolding lib.Ieee.of_bits
returns-then-points-v c = point-past c.args.points.now c.args.v c.if-points-v.true

pub returns : goal.returns
unfolding point_in
returns c = λ i. record { x = c.at.ensures i; y = c.at-2.ensures i; z = c.at-3.ensures i }

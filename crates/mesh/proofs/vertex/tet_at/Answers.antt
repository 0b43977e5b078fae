-- `mesh::vertex::tet_at` meets its contract: past the end all four words are 0. Assumes nothing.
use Rattle.std.proofs.Common.{◌∙◌}
use Rattle.mesh.specs.Element.{tet}
use Rattle.mesh.specs.inside.Intake.{tet_at}
use Rattle.mesh.proofs.Laws.Intake.Reads.{tet-past}
use Rattle.mesh.proofs.vertex.tet_at.Goals as goal

pub returns-then-elements-e : goal.returns-then-elements-e
returns-then-elements-e c = let d = c.default.ensures in (λ i. tet (d.0 i) (d.1.0 i) (d.1.1.0 i) (d.1.1.1 i)) ∙ tet-past c.args.elements.now c.args.e c.if-elements-e.true

pub returns : goal.returns
unfolding tet_at
returns c = λ i. tet (c.at.ensures i) (c.at-2.ensures i) (c.at-3.ensures i) (c.at-4.ensures i)

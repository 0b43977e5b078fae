-- `mesh::shared::list_owned` meets its contract. The invariant: the rows of the elements passed are written. Assumes nothing.
use Rattle.mesh.specs.Words.{points_in}
use Rattle.mesh.proofs.Laws.Shared.Loops.{owning-start, owning-turn, owning-end}
use Rattle.mesh.proofs.shared.list_owned.Goals as goal

pub loop-i-init : goal.loop-i-init
loop-i-init c = owning-start (points_in c.args.points) c.args.n c.args.area.now c.requires.1

pub loop-i-preserved : goal.loop-i-preserved
loop-i-preserved c = owning-turn (points_in c.args.points) c.args.n c.args.area.now c.requires.1 c.loop-i.invariant c.loop-i-test.true c.tet_at-t.ensures c.bad_mark-mark.ensures c.put_faces.ensures

pub returns : goal.returns
returns c = owning-end (points_in c.args.points) c.args.n c.args.area.now c.requires.1 c.loop-i.invariant c.loop-i-test.false

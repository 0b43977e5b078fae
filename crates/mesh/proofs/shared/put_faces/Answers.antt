-- `mesh::shared::put_faces` meets its contract. The invariant: the rows of the faces passed are written. Assumes nothing.
use Rattle.mesh.proofs.Laws.Shared.Loops.{faces-start, faces-turn, faces-end}
use Rattle.mesh.proofs.shared.put_faces.Goals as goal

pub loop-k-init : goal.loop-k-init
loop-k-init c = faces-start c.args.i c.args.mark c.args.t c.args.p c.args.area.now (c.requires)

pub loop-k-preserved : goal.loop-k-preserved
loop-k-preserved c = faces-turn c.args.i c.args.mark c.args.t c.args.p c.args.area.now (c.requires) c.loop-k.invariant c.loop-k-test.true c.tet_face.ensures c.face_key-f.ensures c.put_row.new.area c.put_row.ensures

pub returns : goal.returns
returns c = faces-end c.args.i c.args.mark c.args.t c.args.p c.args.area.now (c.requires) c.loop-k.invariant c.loop-k-test.false

-- `mesh::star::Index::put_live` meets its contract. Assumes nothing.
use Rattle.mesh.proofs.Laws.About.Loops.{gone-put, live-put}
use Rattle.mesh.proofs.star.Index.put_live.Goals as goal

pub returns-then-t : goal.returns-then-t
returns-then-t c = gone-put c.args.s.now c.args.k _ _ c.slot_at-t.ensures c.if-t.true

pub returns : goal.returns
returns c = live-put c.args.s.now c.args.k _ _ c.slot_at-t.ensures c.if-t.false _ c.put_row.ensures

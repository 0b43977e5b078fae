-- `mesh::link::interior::list_links` meets its contract: the elements tell the rows. Assumes nothing.
use Rattle.mesh.proofs.Laws.LinkRows.Areas.{element_row-told}
use Rattle.mesh.proofs.link.interior.list_links.Goals as goal

pub fill_rows-requires-clause-told : goal.fill_rows-requires-clause-told
fill_rows-requires-clause-told c = element_row-told c.args.ab.a c.args.ab.b c.args.area.now.words.now c.args.area.now.n

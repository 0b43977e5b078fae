-- `mesh::euler::list_triangles` meets its contract: the elements tell the rows. Assumes nothing.
use Rattle.mesh.proofs.Laws.Euler.Areas.{triangle_row-told}
use Rattle.mesh.proofs.euler.list_triangles.Goals as goal

pub fill_rows-requires-clause-told : goal.fill_rows-requires-clause-told
fill_rows-requires-clause-told c = triangle_row-told c.args.area.now c.args.n

-- `mesh::link::table::list_told` meets its contract. The invariant: the rows of the first e elements are written. Assumes nothing.
use Rattle.std.proofs.Common.{◌*◌, take}
use Rattle.mesh.specs.inside.LinkTable.{both_row}
use Rattle.mesh.proofs.Laws.LinkRows.Table.{Listing}
use Rattle.mesh.proofs.link.table.list_told.Given as goal

abbrev pub invariant-loop-e : goal.invariant-loop-e
invariant-loop-e l = Listing l.ab.a l.ab.b l.n (take (60 * l.n) l.fn.area.words.now) (both_row l.table) l.front l.c l.e

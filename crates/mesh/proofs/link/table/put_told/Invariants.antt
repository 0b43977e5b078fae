-- `mesh::link::table::put_told` meets its contract. The invariant: of the first k rows those are written that are to be. Assumes nothing.
use Rattle.mesh.specs.inside.LinkTable.{both_row}
use Rattle.mesh.proofs.Laws.LinkRows.Table.{Picking}
use Rattle.mesh.proofs.link.table.put_told.Given as goal

abbrev pub invariant-loop-k : goal.invariant-loop-k
invariant-loop-k l = Picking l.f l.m (both_row l.table) l.p l.initial.words l.words l.c l.k

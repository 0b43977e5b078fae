-- `mesh::link::boundary::drop_numbers` meets its contract. The invariant: the first i rows are left. Assumes nothing.
use Rattle.mesh.proofs.Laws.LinkRows.Keys.{Dropping}
use Rattle.mesh.proofs.link.boundary.drop_numbers.Given as goal

abbrev pub invariant-loop-i : goal.invariant-loop-i
invariant-loop-i l = Dropping l.p l.m l.initial.area l.area l.i

-- `mesh::link::boundary::list_alone` meets its contract. The invariant: the faces of the runs passed are put. Assumes nothing.
use Rattle.mesh.proofs.Laws.LinkRows.Alone.{Putting}
use Rattle.mesh.proofs.link.boundary.list_alone.Given as goal

abbrev pub invariant-loop-i : goal.invariant-loop-i
invariant-loop-i l = Putting l.ab.a l.ab.b l.fn.area.n l.fn.area.words.now l.rest l.c l.i-iterator

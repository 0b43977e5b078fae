-- `mesh::manifold::all_cycles` meets its contract. The invariant: the runs left decide, and no mark is above the last. Assumes nothing.
use Rattle.mesh.proofs.Laws.Manifold.Cycles.{Cycling}
use Rattle.mesh.proofs.manifold.all_cycles.Given as goal

abbrev pub invariant-loop-run : goal.invariant-loop-run
invariant-loop-run l = Cycling l.m l.fn.area l.marks l.mark l.run-iterator

-- `mesh::shared::put_faces` meets its contract. The invariant: the rows of the faces passed are written. Assumes nothing.
use Rattle.mesh.proofs.Laws.Shared.Loops.{Faces}
use Rattle.mesh.proofs.shared.put_faces.Given as goal

abbrev pub invariant-loop-k : goal.invariant-loop-k
invariant-loop-k l = Faces l.i l.mark l.t l.p l.initial.area l.area l.k

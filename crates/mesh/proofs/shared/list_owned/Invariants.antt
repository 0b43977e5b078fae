-- `mesh::shared::list_owned` meets its contract. The invariant: the rows of the elements passed are written. Assumes nothing.
use Rattle.mesh.specs.Words.{points_in}
use Rattle.mesh.proofs.Laws.Shared.Loops.{Owning}
use Rattle.mesh.proofs.shared.list_owned.Given as goal

abbrev pub invariant-loop-i : goal.invariant-loop-i
invariant-loop-i l = Owning (points_in l.points) l.n l.initial.area l.area l.i

-- `mesh::short::Short::push_bad` meets its contract. The invariant: the rows of the slots passed are pushed. Assumes nothing.
use Rattle.mesh.specs.Words.{points_in}
use Rattle.mesh.proofs.Laws.Short.Loops.{Slots}
use Rattle.mesh.proofs.short.Short.push_bad.Given as goal

abbrev pub invariant-loop-e : goal.invariant-loop-e
invariant-loop-e l = Slots (points_in l.self.points) l.self.limit l.n l.initial.area l.area l.k l.e

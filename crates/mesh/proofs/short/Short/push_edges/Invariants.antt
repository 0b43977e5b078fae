-- `mesh::short::Short::push_edges` meets its contract. The invariant: the rows of the edges passed are pushed. Assumes nothing.
use Rattle.mesh.specs.Words.{points_in}
use Rattle.mesh.proofs.Laws.Short.Loops.{Edges}
use Rattle.mesh.proofs.short.Short.push_edges.Given as goal

abbrev pub invariant-loop-j : goal.invariant-loop-j
invariant-loop-j l = Edges (points_in l.self.points) l.self.limit l.t l.p l.initial.area l.area l.k l.j

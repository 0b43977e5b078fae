-- `mesh::star::Index::live_elements` meets its contract. The invariant: the live ones of the first e slots stand in the area. Assumes nothing.
use Rattle.mesh.proofs.Laws.About.Loops.{Living}
use Rattle.mesh.proofs.star.Index.live_elements.Given as goal

abbrev pub invariant-loop-e : goal.invariant-loop-e
invariant-loop-e l = Living l.self l.n l.initial.s l.s l.e l.k

-- `mesh::star::Index::elements_at` meets its contract. The invariant: the elements of the first i slots stand behind the list. Assumes nothing.
use Rattle.mesh.proofs.Laws.About.Loops.{Listing}
use Rattle.mesh.proofs.star.Index.elements_at.Given as goal

abbrev pub invariant-loop-i : goal.invariant-loop-i
invariant-loop-i l = Listing l.self l.n l.initial.s l.s l.i

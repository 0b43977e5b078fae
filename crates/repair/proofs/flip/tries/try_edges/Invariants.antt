-- `repair::flip::tries::try_edges` meets its contract. The invariant: the edges so far are tried, and the rows are kept. Assumes nothing.
use Rattle.mesh.specs.Words.{points_in}
use Rattle.repair.proofs.Laws.Flip.Tries.{AtEdge}
use Rattle.repair.proofs.flip.tries.try_edges.Given as goal

abbrev pub invariant-loop-i : goal.invariant-loop-i
invariant-loop-i l = AtEdge l.given.index l.given.elements l.fn.l.bad l.fn.l.edges l.initial.r (points_in l.given.points) l.initial.work l.work l.r l.i

-- `repair::flip::tries::try_faces` meets its contract. The invariant: the faces so far are tried, and the rows are kept. Assumes nothing.
use Rattle.mesh.specs.Words.{points_in}
use Rattle.repair.proofs.Laws.Flip.Tries.{AtFace}
use Rattle.repair.proofs.flip.tries.try_faces.Given as goal

abbrev pub invariant-loop-i : goal.invariant-loop-i
invariant-loop-i l = AtFace l.given.index l.given.elements l.count (points_in l.given.points) l.initial.work l.work l.t l.i

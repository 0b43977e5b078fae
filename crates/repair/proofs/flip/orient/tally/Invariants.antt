-- `repair::flip::orient::tally` meets its contract. The invariant: the elements so far are counted. Assumes nothing.
use Rattle.mesh.specs.Words.{points_in}
use Rattle.mesh.specs.Measure.{measure}
use Rattle.repair.proofs.Laws.Flip.Accepted.{Counting}
use Rattle.repair.proofs.flip.orient.tally.Given as goal

abbrev pub invariant-loop-t : goal.invariant-loop-t
invariant-loop-t l = Counting (measure (points_in l.points)) l.ts l.r l.t-index

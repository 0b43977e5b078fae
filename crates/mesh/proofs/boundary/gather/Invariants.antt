-- `mesh::boundary::gather` meets its contract. The invariant is `Gathering`: the single faces found and those left are all.
-- Each turn takes a run. Assumes nothing.
use Rattle.mesh.proofs.Laws.Boundary.Gather.{Gathering}
use Rattle.mesh.proofs.boundary.gather.Given as goal

abbrev pub invariant-loop-left : goal.invariant-loop-left
invariant-loop-left l = Gathering l.n l.initial.area l.area l.p l.left l.t l.count

abbrev pub decreases-loop-left : goal.decreases-loop-left
decreases-loop-left l = l.left

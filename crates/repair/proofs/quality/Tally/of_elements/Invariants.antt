-- `repair::quality::Tally::of_elements` meets its contract. Assumes nothing.
use Rattle.mesh.specs.Words.{points_in}
use Rattle.mesh.specs.Measure.{measure}
use Rattle.repair.proofs.Laws.Gain.Tallies.{Tallying}
use Rattle.repair.proofs.quality.Tally.of_elements.Given as goal

abbrev pub invariant-loop-i : goal.invariant-loop-i
invariant-loop-i l = Tallying (measure (points_in l.points)) l.work l.p l.n l.r l.i

-- `trial_scores::lowest_about` meets its contract. The invariant: the lowest of what is left, from what is found so far, is the lowest of the whole. Assumes nothing.
use Rattle.std.proofs.Common.{◌≡◌, ◌+◌, ◌-◌}
use Rattle.mesh.specs.Words.{points_of}
use Rattle.mesh.specs.Measure.{measure, lowest_of}
use Rattle.repair.specs.inside.smooth.Site.{about}
use Rattle.repair.proofs.Laws.Site.Scan.{low_left}
use Rattle.repair.proofs.smooth.trial_scores.lowest_about.Given as goal

abbrev pub invariant-loop-i : goal.invariant-loop-i
invariant-loop-i l =
    let ps = points_of l.fn.s.vertices l.fn.points in
    low_left l.elements l.work ps l.i (l.fn.s.area + l.fn.s.about - l.i) l.low ≡ lowest_of (measure ps) (about l.elements l.work l.fn.s.area l.fn.s.about)

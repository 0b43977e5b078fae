-- `trial_scores::View::try_point` meets its contract. The invariant: of what is left, from what is found so far, lowest score and test are those of the whole. Assumes nothing.
use Rattle.std.proofs.Common.{◌≡◌, ◌+◌, ◌-◌}
use Rattle.mesh.specs.Measure.{measure, lowest_of}
use Rattle.repair.specs.inside.smooth.Site.{about, trial_points, beats}
use Rattle.repair.proofs.Laws.Site.Scan.{low_left, better_left}
use Rattle.repair.proofs.smooth.trial_scores.View.try_point.Given as goal

abbrev pub invariant-loop-i : goal.invariant-loop-i
invariant-loop-i l =
    let x = l.self in
    let ps = trial_points x.options x.parameters.now x.points.now x.work.now x.site l.p in
    let ts = about x.elements.now x.work.now x.site.area x.site.about in
    let left = x.site.area + x.site.about - l.i in
    (low_left x.elements.now x.work.now ps l.i left l.low ≡ lowest_of (measure ps) ts) × (better_left x.elements.now x.work.now ps l.bar l.i left l.low ≡ beats ts ps l.bar)

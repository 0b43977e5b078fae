-- `choose::try_candidate` meets its contract. Assumes nothing.
use Rattle.std.proofs.Common.{◌∙◌, sym, ap}
use Rattle.repair.specs.inside.smooth.Site.{members, about, state_of, trial_points, best_in, compared}
use Rattle.repair.proofs.Laws.Site.Best.{compared-better, compared-worse}
use Rattle.repair.proofs.smooth.choose.try_candidate.Goals as goal

pub returns-in-None : goal.returns-in-None
unfolding trial_points lib.Ieee.of_bits
returns-in-None c =
    let x = c.args.x in
    let ts = about x.elements.now x.work.now x.site.area x.site.about in
    let s = state_of x.site.vertices x.parameters.now x.points.now 0 in
    let g = members x.work.now x.site.group x.site.count in
    compared-worse x.options ts s g c.args.best c.in-Some.p c.in-None.ensures ∙ ap (compared x.options ts s g (best_in c.args.best)) (sym c.in-Some.is)

pub returns-in-Some-try_point : goal.returns-in-Some-try_point
unfolding trial_points lib.Ieee.of_bits
returns-in-Some-try_point c =
    let x = c.args.x in
    let ts = about x.elements.now x.work.now x.site.area x.site.about in
    let s = state_of x.site.vertices x.parameters.now x.points.now 0 in
    let g = members x.work.now x.site.group x.site.count in
    compared-better x.options ts s g c.args.best c.in-Some.p c.in-Some-try_point.lowest c.in-Some-try_point.ensures.0 c.in-Some-try_point.ensures.1 ∙ ap (compared x.options ts s g (best_in c.args.best)) (sym c.in-Some.is)

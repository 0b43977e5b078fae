-- `choose::best_candidate` meets its contract. The invariant: the best of the candidates left, from the best so far, is the best of all. Assumes nothing.
use Rattle.std.proofs.Common.{◌-◌, ◌∙◌, take, drop, refl, sym, ap}
use Rattle.repair.specs.Smooth.{best_of}
use Rattle.repair.specs.Step.{regions_in}
use Rattle.repair.specs.inside.smooth.Site.{members, about, state_of, best_in, compared, none_yet}
use Rattle.repair.proofs.Laws.Site.Best.{tried-is, best-turn, best-end, start-items}
use Rattle.repair.proofs.smooth.choose.best_candidate.Goals as goal

pub loop-c-init : goal.loop-c-init
loop-c-init c = refl

pub loop-c-preserved : goal.loop-c-preserved
loop-c-preserved c =
    let x = c.args.x in
    let o = x.options in
    let F = c.args.regions.fields.list.now in
    let R = regions_in c.args.regions.masks in
    let ts = about x.elements.now x.work.now x.site.area x.site.about in
    let s = state_of x.site.vertices x.parameters.now x.points.now 0 in
    let g = members x.work.now x.site.group x.site.count in
    let origin = c.args.start.origin in
    let active = take c.active-n.result.1 c.active-n.result.0 in
    let items = take (9 - c.first_candidate.result) (drop c.first_candidate.result c.candidates-nine.result) in
    let l = c.loop-c in
    best-turn o F R ts s g origin active items l.c-index _ (best_in l.best) _ c.loop-c-test.true
    (c.try_candidate-best.ensures ∙ ap (compared o ts s g (best_in l.best)) c.permitted-p.ensures ∙ tried-is o F R ts s g origin active (best_in l.best) _)
    ∙ l.invariant

pub returns : goal.returns
returns c =
    let x = c.args.x in
    let o = x.options in
    let F = c.args.regions.fields.list.now in
    let R = regions_in c.args.regions.masks in
    let ts = about x.elements.now x.work.now x.site.area x.site.about in
    let s = state_of x.site.vertices x.parameters.now x.points.now 0 in
    let g = members x.work.now x.site.group x.site.count in
    let origin = c.args.start.origin in
    let active = take c.active-n.result.1 c.active-n.result.0 in
    let items = take (9 - c.first_candidate.result) (drop c.first_candidate.result c.candidates-nine.result) in
    let l = c.loop-c in
    let e = start-items c.args.start o c.candidates-nine.result c.first_candidate.result c.spacing.result c.candidates-nine.ensures c.spacing.ensures c.first_candidate.ensures in
    sym (best-end o F R ts s g origin active items l.c-index (best_in l.best) c.loop-c-test.false) ∙ l.invariant
    ∙ (λ j. best_of o F R ts s g origin (c.active-n.ensures.2 j) (none_yet c.args.lowest) (e j))

-- `choose::best_candidate` meets its contract. The invariant: the best of the candidates left, from the best so far, is the best of all. Assumes nothing.
use Rattle.std.proofs.Common.{◌≡◌, List, drop}
use Rattle.geometry.specs.declared.point.Point.{Point}
use Rattle.repair.specs.Smooth.{Best, best_of}
use Rattle.repair.specs.Step.{regions_in}
use Rattle.repair.specs.inside.smooth.Site.{members, about, state_of, best_in, none_yet}
use Rattle.repair.proofs.smooth.choose.best_candidate.Given as goal

abbrev pub invariant-loop-c : goal.invariant-loop-c
invariant-loop-c l =
    let x = l.x in
    let ts = about x.elements.now x.work.now x.site.area x.site.about in
    let s = state_of x.site.vertices x.parameters.now x.points.now 0 in
    let g = members x.work.now x.site.group x.site.count in
    let best : Best → List Point → Best = best_of l.o l.regions.fields.list.now (regions_in l.regions.masks) ts s g l.start.origin l.active.0.now in
    best (best_in l.best) (drop l.c-index l.c-items) ≡ best (none_yet l.lowest) l.c-items

-- `repair::smooth::best_for` meets its contract. Assumes nothing.
use mathlib.Core.Path.{ap, ◌∙◌}
use Rattle.mesh.specs.Words.{word_at}
use Rattle.repair.specs.Step.{regions_in}
use Rattle.repair.proofs.Laws.Site.Turn.{first_below, below_as, started-as, work-same, best-is}
use Rattle.repair.proofs.smooth.best_for.Goals as goal

pub start_from-start-requires : goal.start_from-start-requires
start_from-start-requires c = let a = c.args in
    let S = c.requires.ready.2 in
    (c.requires.ready.0, below_as c.at-v.ensures (first_below a.x a.work.now a.site.group a.site.count S.rows), S.few)

pub returns : goal.returns
returns c =
    let a = c.args in
    let w = a.work.now in
    let F = a.c.regions.fields.list.now in
    let R = regions_in a.c.regions.masks in
    let T = started-as a.c.options a.x a.parameters.now a.site.about w _ c.start_from-start.result c.at-v.ensures c.start_from-start.ensures in
    record {
      best = best-is a.c.options F R a.x a.c.masks.now a.c.elements.now a.parameters.now a.points.now w a.site c.requires.ready.0 c.requires.ready.1 c.requires.ready.2
          _ c.start_from-start.result a.lowest c.at-mask.result _ T
          (c.at-mask.ensures ∙ ap (word_at a.c.masks.now) c.at-v.ensures) c.requires.lowest c.best_candidate.ensures;
      same_to = work-same a.c.options F R a.x a.c.masks.now a.c.elements.now a.parameters.now a.points.now w a.site c.requires.ready.0 c.requires.ready.1 c.requires.ready.2 _ T.same;
    }

-- `repair::smooth::smooth_in` meets its contract. Assumes nothing.
use mathlib.Core.Path.{ap, ◌∙◌}
use Rattle.mesh.specs.Words.{zero_words}
use Rattle.repair.specs.Step.{regions_in}
use Rattle.repair.proofs.Laws.Site.Pass.{turned_as}
use Rattle.repair.proofs.smooth.smooth_in.Goals as goal

pub returns : goal.returns
returns c =
    let a = c.args in
    let q = c.prepare-x.ensures.laid in
    record {
      turned = turned_as a.c.options a.c.regions.fields.list.now (regions_in a.c.regions.masks) c.prepare-x.result a.sizes.vertices a.sizes.elements a.c.masks.now a.c.elements.now
          a.parameters.now a.points.now _ _ c.smooth_groups-moved.result q.0 q.1 c.smooth_groups-moved.ensures;
      work_after = c.zero_all.ensures ∙ ap zero_words (c.smooth_groups-moved.auto.work ∙ c.prepare-x.auto.work);
    }

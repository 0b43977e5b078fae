-- `mesh::link::features::feature_run` meets its contract, test by test. Assumes nothing.
use Rattle.std.proofs.Common.{get_or}
use Rattle.mesh.specs.Feature.{strata_in}
use Rattle.mesh.proofs.Laws.LinkRows.Whole.{vertex-exact, feature-edge, feature-first, feature-second, feature-at}
use Rattle.mesh.proofs.link.features.feature_run.Goals.{then-x-area-via-then-x-area, then-x-area-via-else-x-area+then-x-e, then-x-area-via-else-x-area+else-x-e+then-x-e-2}
use Rattle.mesh.proofs.link.features.feature_run.Goals as goal

pub returns-then-x-area : goal.returns-then-x-area
returns-then-x-area c =
    elim c.then-x-area.branch [
      | then-x-area-via-then-x-area w ↦ feature-edge (strata_in c.args.e.now.ends.strata) c.args.e.now.ends.a c.args.e.now.ends.b c.args.e.now.ab c.args.area.now c.args.p c.args.k c.requires.0 w.if-x-area.true
      | then-x-area-via-else-x-area+then-x-e w ↦ feature-first (strata_in c.args.e.now.ends.strata) c.args.e.now.ends.a c.args.e.now.ends.b c.args.e.now.ab c.args.area.now c.args.p c.args.k c.requires.0 w.if-x-area.false w.if-x-e.true
      | then-x-area-via-else-x-area+else-x-e+then-x-e-2 w ↦ feature-second (strata_in c.args.e.now.ends.strata) c.args.e.now.ends.a c.args.e.now.ends.b c.args.e.now.ab c.args.area.now c.args.p c.args.k c.requires.0 w.if-x-area.false w.if-x-e.false w.if-x-e-2.true
    ]

pub returns : goal.returns
returns c = feature-at (strata_in c.args.e.now.ends.strata) c.args.e.now.ends.a c.args.e.now.ends.b c.args.e.now.ab c.args.area.now c.args.p c.args.k c.requires.0 c.if-x-area.false c.if-x-e.false c.if-x-e-2.false _ (vertex-exact (strata_in c.args.e.now.ends.strata) c.args.e.now.ends.a c.args.e.now.ends.b (get_or c.args.area.now c.args.p 0) c.args.e.now.ma c.args.e.now.mb c.of-mx.result c.args.e.now.ab c.has_mark-a.result c.has_mark-b.result c.has_mark-both.result _ _ _ _ c.args.e.now.first c.args.e.now.second c.of-mx.ensures.value c.has_mark-a.ensures c.has_mark-b.ensures c.has_mark-both.ensures c.vertex_by.ensures)

-- `mesh::link::edge_ok` meets its contract: two tests, the first that fails decides. Assumes nothing.
use Rattle.std.proofs.Common.{sym, ◌∙◌}
use Rattle.mesh.specs.Link.{interior_ok}
use Rattle.mesh.specs.Feature.{strata_in}
use Rattle.mesh.specs.inside.LinkAreas.{tets_of}
use Rattle.mesh.proofs.Laws.LinkRows.Whole.{proper-kept, later, surface-fails, interior-decides}
use Rattle.mesh.proofs.link.edge_ok.Goals as goal

pub interior_ok_in-requires : goal.interior_ok_in-requires
interior_ok_in-requires c = proper-kept c.surface_ok.ensures.1 c.requires

pub returns-then-surface_ok : goal.returns-then-surface_ok
returns-then-surface_ok c =
    let h = later c.surface_ok.ensures.1 (interior_ok c.args.e.a c.args.e.b) c.interior_ok_in.ensures in
    (interior-decides (strata_in c.args.e.strata) c.args.e.a c.args.e.b (tets_of c.args.area.now) c.interior_ok_in.result (sym c.surface_ok.ensures.0 ∙ c.if-surface_ok.true) h.0, h.1)

pub returns-else-surface_ok : goal.returns-else-surface_ok
returns-else-surface_ok c = (c.if-surface_ok.false ∙ surface-fails (strata_in c.args.e.strata) c.args.e.a c.args.e.b (tets_of c.args.area.now) (sym c.surface_ok.ensures.0 ∙ c.if-surface_ok.false), c.surface_ok.ensures.1)

-- `mesh::link::surface_ok` meets its contract: the two tests, the first that fails decides. Assumes nothing.
use Rattle.std.proofs.Common.{sym, ap, ◌∙◌}
use Rattle.mesh.specs.Link.{boundary_about, boundary_ok}
use Rattle.mesh.specs.Feature.{feature_ok, strata_in}
use Rattle.mesh.proofs.Laws.Intake.Chains.{and-on, and-off}
use Rattle.mesh.proofs.Laws.LinkRows.Whole.{elements-kept, edge-rows}
use Rattle.mesh.proofs.link.surface_ok.Goals as goal

pub feature_ok_in-requires : goal.feature_ok_in-requires
feature_ok_in-requires c = let k = c.list_boundary-m.ensures in edge-rows k.2 c.args.e.a c.args.e.b c.list_boundary-m.result c.requires c.args.e.apart k.0 k.1

pub returns-then-boundary_ok_in : goal.returns-then-boundary_ok_in
returns-then-boundary_ok_in c =
    let k = c.list_boundary-m.ensures in
    let a = c.args.e.a in
    let b = c.args.e.b in
    let e = c.boundary_ok_in.ensures a b (edge-rows k.2 a b c.list_boundary-m.result c.requires c.args.e.apart k.0 k.1) ∙ ap (boundary_ok a b) (elements-kept k.2) in
    (and-on (sym e ∙ c.if-boundary_ok_in.true) (c.feature_ok_in.ensures ∙ ap (λ ts. feature_ok (strata_in c.args.e.strata) a b (boundary_about a b ts)) (elements-kept k.2)), k.2)

pub returns-else-boundary_ok_in : goal.returns-else-boundary_ok_in
returns-else-boundary_ok_in c =
    let k = c.list_boundary-m.ensures in
    let a = c.args.e.a in
    let b = c.args.e.b in
    let e = c.boundary_ok_in.ensures a b (edge-rows k.2 a b c.list_boundary-m.result c.requires c.args.e.apart k.0 k.1) ∙ ap (boundary_ok a b) (elements-kept k.2) in
    (and-off _ (sym e ∙ c.if-boundary_ok_in.false) c.if-boundary_ok_in.false, k.2)

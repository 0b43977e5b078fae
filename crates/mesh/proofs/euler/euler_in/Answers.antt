-- `mesh::euler::euler_in` meets its contract, a size at a time. Assumes nothing.
use Rattle.std.proofs.Common.{rules, sym, ◌∙◌}
use Rattle.mesh.specs.inside.Euler.{count_fits}
use Rattle.mesh.proofs.Laws.Euler.Areas.{in-no, in-yes, vertex_row-told, edge_row-told, triangle_row-told}
use Rattle.mesh.proofs.euler.euler_in.Goals as goal

pub returns-then-not-fits : goal.returns-then-not-fits
unfolding count_fits
returns-then-not-fits c = let e = in-no c.args.n c.args.area.now (sym c.fits.ensures ∙ c.if-not-fits.true) in let d = c.default.ensures in search (rules, e, d)

pub count_kind-vertices-requires-clause-told : goal.count_kind-vertices-requires-clause-told
count_kind-vertices-requires-clause-told c = vertex_row-told c.args.area.now c.args.n

pub count_kind-edges-requires-clause-told : goal.count_kind-edges-requires-clause-told
count_kind-edges-requires-clause-told c = edge_row-told c.count_kind-vertices.new.area c.args.n

pub count_kind-triangles-requires-clause-told : goal.count_kind-triangles-requires-clause-told
count_kind-triangles-requires-clause-told c = triangle_row-told c.count_kind-edges.new.area c.args.n

pub returns : goal.returns
unfolding count_fits
returns c =
    let v = c.count_kind-vertices in
    let e = c.count_kind-edges in
    let t = c.count_kind-triangles in
    in-yes c.args.n v.ensures.1 e.ensures.1 t.ensures.1 v.result e.result t.result (sym c.fits.ensures ∙ c.if-not-fits.false) v.ensures.0 e.ensures.0 t.ensures.0 c.clear_from.ensures

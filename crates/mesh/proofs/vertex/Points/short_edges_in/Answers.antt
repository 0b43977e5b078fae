-- `mesh::vertex::Points::short_edges_in` meets its contract: the pushed rows as a set. Assumes nothing.
use Rattle.std.proofs.Common.{sym, ◌∙◌}
use Rattle.mesh.specs.Words.{points_in}
use Rattle.mesh.proofs.Laws.Short.Whole.{in-no, sortable, listing}
use Rattle.mesh.specs.inside.Short.{short_fits}
use Rattle.mesh.proofs.vertex.Points.short_edges_in.Goals as goal

pub returns-then-not-fits : goal.returns-then-not-fits
unfolding short_fits
returns-then-not-fits c = in-no (points_in c.args.self) c.args.limit c.args.n c.args.area.now (sym c.fits.ensures ∙ c.if-not-fits.true)

pub set_from-requires : goal.set_from-requires
unfolding short_fits
set_from-requires c = sortable (points_in c.args.self) c.args.limit c.args.n c.push_bad-k.result c.args.area.now c.push_bad-k.new.area (sym c.fits.ensures ∙ c.if-not-fits.false) c.push_bad-k.ensures

pub returns : goal.returns
unfolding short_fits
returns c = listing (points_in c.args.self) c.args.limit c.args.n c.push_bad-k.result c.args.area.now c.push_bad-k.new.area (sym c.fits.ensures ∙ c.if-not-fits.false) c.push_bad-k.ensures c.set_from.result c.set_from.new.area c.set_from.ensures.0 c.set_from.ensures.1

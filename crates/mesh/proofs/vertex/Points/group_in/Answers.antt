-- `mesh::vertex::Points::group_in` meets its contract: rows listed and sorted. Assumes nothing.
use Rattle.std.proofs.Common.{sym, ◌∙◌}
use Rattle.mesh.proofs.Laws.Group.Area.{grouped-no, grouped-yes}
use Rattle.mesh.specs.inside.Group.{group_fits}
use Rattle.mesh.proofs.vertex.Points.group_in.Goals as goal

pub returns-then-not-fits : goal.returns-then-not-fits
unfolding group_fits
returns-then-not-fits c = grouped-no c.args.o c.args.self.floats.now c.args.self.count c.args.area.now (sym c.fits.ensures ∙ c.if-not-fits.true)

pub returns : goal.returns
unfolding group_fits
returns c = let a = c.args in grouped-yes a.o a.self.floats.now a.self.count a.area.now c.fill_rows.new.area (sym c.fits.ensures ∙ c.if-not-fits.false) c.fill_rows.ensures c.sort_rows.new.area c.sort_rows.ensures

-- `mesh::vertex::Points::bad_rows_in` meets its contract: the bad elements, their rows, and the rows as a set. Assumes nothing.
use Rattle.std.proofs.Common.{sym, ◌∙◌, arith, rules}
use Rattle.mesh.specs.Words.{points_in}
use Rattle.mesh.specs.Complex.{keep}
use Rattle.mesh.specs.inside.Euler.{spread}
use Rattle.mesh.specs.inside.List.{set_of, bad_in, own_rows}
use Rattle.mesh.proofs.Laws.List.Rows.{in-no}
use Rattle.mesh.proofs.Laws.List.Whole.{each-few, few, ready, sortable, listing}
use Rattle.mesh.specs.inside.List.{list_fits}
use Rattle.mesh.proofs.vertex.Points.bad_rows_in.Goals as goal

pub returns-then-not-fits : goal.returns-then-not-fits
unfolding list_fits
returns-then-not-fits g c =
    let a = c.args in
    let e = in-no (λ ts. set_of (spread (own_rows (g.R.Rows.words a.kind.now) g.row.EACH) (keep (bad_in (points_in a.self)) ts))) (points_in a.self) a.n a.area.now (sym c.fits.ensures ∙ c.if-not-fits.true) in
    let d = c.default.ensures in
    search (rules, e, d)

pub rows_from-requires-clause-room : goal.rows_from-requires-clause-room
unfolding list_fits
rows_from-requires-clause-room g c = let a = c.args in let f = sym c.fits.ensures ∙ c.if-not-fits.false in ready c.requires (points_in a.self) a.n c.list_bad-elements.result a.area.now c.list_bad-elements.new.area f c.list_bad-elements.ensures.0 c.list_bad-elements.ensures.1

pub overflow_mul-elements : goal.overflow_mul-elements
unfolding list_fits
overflow_mul-elements g c = let a = c.args in let f = sym c.fits.ensures ∙ c.if-not-fits.false in omega (arith, (few c.requires (points_in a.self) a.n c.list_bad-elements.result a.area.now c.list_bad-elements.new.area f c.list_bad-elements.ensures.0 c.list_bad-elements.ensures.1).0, (few c.requires (points_in a.self) a.n c.list_bad-elements.result a.area.now c.list_bad-elements.new.area f c.list_bad-elements.ensures.0 c.list_bad-elements.ensures.1).1)

pub overflow_add-n : goal.overflow_add-n
unfolding list_fits
overflow_add-n g c = let a = c.args in let f = sym c.fits.ensures ∙ c.if-not-fits.false in omega (arith, (few c.requires (points_in a.self) a.n c.list_bad-elements.result a.area.now c.list_bad-elements.new.area f c.list_bad-elements.ensures.0 c.list_bad-elements.ensures.1).0, (few c.requires (points_in a.self) a.n c.list_bad-elements.result a.area.now c.list_bad-elements.new.area f c.list_bad-elements.ensures.0 c.list_bad-elements.ensures.1).1)

pub overflow_mul-elements-2 : goal.overflow_mul-elements-2
unfolding list_fits
overflow_mul-elements-2 g c = let a = c.args in let f = sym c.fits.ensures ∙ c.if-not-fits.false in omega (arith, (few c.requires (points_in a.self) a.n c.list_bad-elements.result a.area.now c.list_bad-elements.new.area f c.list_bad-elements.ensures.0 c.list_bad-elements.ensures.1).0, (few c.requires (points_in a.self) a.n c.list_bad-elements.result a.area.now c.list_bad-elements.new.area f c.list_bad-elements.ensures.0 c.list_bad-elements.ensures.1).1, each-few c.requires c.list_bad-elements.result)

pub set_from-rows-requires : goal.set_from-rows-requires
unfolding list_fits
set_from-rows-requires g c = let a = c.args in let f = sym c.fits.ensures ∙ c.if-not-fits.false in sortable c.requires (points_in a.self) a.n c.list_bad-elements.result a.area.now c.list_bad-elements.new.area f c.list_bad-elements.ensures.0 c.list_bad-elements.ensures.1 c.rows_from.new.area c.rows_from.ensures

pub returns : goal.returns
unfolding list_fits
returns g c = let a = c.args in let f = sym c.fits.ensures ∙ c.if-not-fits.false in listing c.requires (points_in a.self) a.n c.list_bad-elements.result a.area.now c.list_bad-elements.new.area f c.list_bad-elements.ensures.0 c.list_bad-elements.ensures.1 c.rows_from.new.area c.rows_from.ensures c.set_from-rows.result c.set_from-rows.new.area c.set_from-rows.ensures.0 c.set_from-rows.ensures.1

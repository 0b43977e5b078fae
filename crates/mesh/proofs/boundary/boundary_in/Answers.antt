-- `mesh::boundary::boundary_in` meets its contract: the laws of Laws/Boundary/Whole.antt, a call at a time. Assumes nothing.
use Rattle.std.proofs.Common.{sym, ap, ◌∙◌, arith}
use Rattle.mesh.specs.Surface.{outcome_of}
use Rattle.mesh.proofs.Laws.Boundary.Whole.{too_small, rows-stand, refused, end-room, filled}
use Rattle.mesh.specs.inside.Surface.{area_fits}
use Rattle.mesh.proofs.boundary.boundary_in.Goals as goal

pub returns-then-not-fits : goal.returns-then-not-fits
unfolding area_fits
returns-then-not-fits c = let a = c.args in too_small a.n a.area.now c.zero_all.new.s (sym c.fits.ensures ∙ c.if-not-fits.true) c.zero_all.ensures

pub gather-requires : goal.gather-requires
unfolding area_fits
gather-requires c = let a = c.args in rows-stand a.n a.area.now (sym c.fits.ensures ∙ c.if-not-fits.false) c.sorted_faces.new.area c.sorted_faces.ensures

pub overflow_mul-end : goal.overflow_mul-end
unfolding area_fits
overflow_mul-end c = let a = c.args in let r = end-room a.n a.area.now (sym c.fits.ensures ∙ c.if-not-fits.false) c.sorted_faces.new.area c.sorted_faces.ensures c.gather.new.area (outcome_of c.gather.result) c.gather.auto.area c.gather.ensures _ (ap outcome_of c.in-Ok.is) c.sort_rows.new.area c.sort_rows.ensures in omega arith

pub overflow_add-end : goal.overflow_add-end
unfolding area_fits
overflow_add-end c = let a = c.args in let r = end-room a.n a.area.now (sym c.fits.ensures ∙ c.if-not-fits.false) c.sorted_faces.new.area c.sorted_faces.ensures c.gather.new.area (outcome_of c.gather.result) c.gather.auto.area c.gather.ensures _ (ap outcome_of c.in-Ok.is) c.sort_rows.new.area c.sort_rows.ensures in omega arith

pub offset_bounds-area-end : goal.offset_bounds-area-end
unfolding area_fits
offset_bounds-area-end c = let a = c.args in let r = end-room a.n a.area.now (sym c.fits.ensures ∙ c.if-not-fits.false) c.sorted_faces.new.area c.sorted_faces.ensures c.gather.new.area (outcome_of c.gather.result) c.gather.auto.area c.gather.ensures _ (ap outcome_of c.in-Ok.is) c.sort_rows.new.area c.sort_rows.ensures in omega arith

pub slice_bounds-zero_all-count : goal.slice_bounds-zero_all-count
unfolding area_fits
slice_bounds-zero_all-count c = let a = c.args in let r = end-room a.n a.area.now (sym c.fits.ensures ∙ c.if-not-fits.false) c.sorted_faces.new.area c.sorted_faces.ensures c.gather.new.area (outcome_of c.gather.result) c.gather.auto.area c.gather.ensures _ (ap outcome_of c.in-Ok.is) c.sort_rows.new.area c.sort_rows.ensures in omega arith

pub slice_bounds-zero_all-start : goal.slice_bounds-zero_all-start
unfolding area_fits
slice_bounds-zero_all-start c = let a = c.args in let r = end-room a.n a.area.now (sym c.fits.ensures ∙ c.if-not-fits.false) c.sorted_faces.new.area c.sorted_faces.ensures c.gather.new.area (outcome_of c.gather.result) c.gather.auto.area c.gather.ensures _ (ap outcome_of c.in-Ok.is) c.sort_rows.new.area c.sort_rows.ensures in omega arith

pub returns-in-Ok : goal.returns-in-Ok
unfolding area_fits
returns-in-Ok c = let a = c.args in filled a.n a.area.now (sym c.fits.ensures ∙ c.if-not-fits.false) c.sorted_faces.new.area c.sorted_faces.ensures c.gather.new.area (outcome_of c.gather.result) c.gather.auto.area c.gather.ensures _ (ap outcome_of c.in-Ok.is) c.sort_rows.new.area c.sort_rows.ensures c.zero_all-in-Ok.new.s c.zero_all-in-Ok.ensures

pub returns-in-Err : goal.returns-in-Err
unfolding area_fits
returns-in-Err c = let a = c.args in refused a.n a.area.now (sym c.fits.ensures ∙ c.if-not-fits.false) c.sorted_faces.new.area c.sorted_faces.ensures c.gather.new.area (outcome_of c.gather.result) c.gather.auto.area c.gather.ensures _ (ap outcome_of c.in-Err.is) c.zero_all-in-Err.new.s c.zero_all-in-Err.ensures

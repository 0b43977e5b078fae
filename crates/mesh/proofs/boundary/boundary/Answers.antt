-- `mesh::boundary::boundary` meets its contract: the laws of Laws/Boundary/Called.antt, a call at a time. Assumes nothing.
use Rattle.std.proofs.Common.{length, sym, ap, ◌∙◌, arith}
use Rattle.std.proofs.lemmas.Result.{err_from_is_err_and}
use Rattle.mesh.specs.Surface.{outcome_of}
use Rattle.mesh.proofs.Laws.Boundary.Called.{too_short, call-room, part_room, refused, few-triples, copy-room, called}
use Rattle.mesh.proofs.boundary.boundary.Goals as goal

pub returns-then-not-call_fits : goal.returns-then-not-call_fits
returns-then-not-call_fits c = let a = c.args in too_short a.n a.elements.now a.surface.now a.work.now c.zero_all.new.s (sym c.call_fits.ensures ∙ c.if-not-call_fits.true) c.zero_all.ensures

pub overflow_mul-m : goal.overflow_mul-m
overflow_mul-m c = let a = c.args in let r = call-room a.n (length a.elements.now) (length a.surface.now) (length a.work.now) (sym c.call_fits.ensures ∙ c.if-not-call_fits.false) in omega arith

pub copy_over-requires : goal.copy_over-requires
copy_over-requires c = let a = c.args in let r = call-room a.n (length a.elements.now) (length a.surface.now) (length a.work.now) (sym c.call_fits.ensures ∙ c.if-not-call_fits.false) in (omega arith, r.elements)

pub offset_bounds-work-m : goal.offset_bounds-work-m
offset_bounds-work-m c = let a = c.args in let g = c.boundary_in in let r = part_room a.n a.elements.now a.surface.now a.work.now (sym c.call_fits.ensures ∙ c.if-not-call_fits.false) c.copy_over.new.to c.copy_over.ensures (outcome_of g.result) g.new.area g.ensures g.auto.area in omega arith

pub slice_bounds-copy_over-count : goal.slice_bounds-copy_over-count
slice_bounds-copy_over-count c = let a = c.args in let g = c.boundary_in in let r = part_room a.n a.elements.now a.surface.now a.work.now (sym c.call_fits.ensures ∙ c.if-not-call_fits.false) c.copy_over.new.to c.copy_over.ensures (outcome_of g.result) g.new.area g.ensures g.auto.area in omega arith

pub slice_bounds-copy_over-start : goal.slice_bounds-copy_over-start
slice_bounds-copy_over-start c = let a = c.args in let g = c.boundary_in in let r = part_room a.n a.elements.now a.surface.now a.work.now (sym c.call_fits.ensures ∙ c.if-not-call_fits.false) c.copy_over.new.to c.copy_over.ensures (outcome_of g.result) g.new.area g.ensures g.auto.area in omega arith

pub overflow_mul-c : goal.overflow_mul-c
overflow_mul-c c = let a = c.args in let g = c.boundary_in in let r = few-triples a.n a.elements.now a.surface.now a.work.now (sym c.call_fits.ensures ∙ c.if-not-call_fits.false) c.copy_over.new.to c.copy_over.ensures (outcome_of g.result) g.new.area g.ensures _ (ap outcome_of c.in_ok-c.was) in omega arith

pub copy_over-requires-2 : goal.copy_over-requires-2
copy_over-requires-2 c = let a = c.args in let g = c.boundary_in in copy-room a.n a.elements.now a.surface.now a.work.now (sym c.call_fits.ensures ∙ c.if-not-call_fits.false) c.copy_over.new.to c.copy_over.ensures (outcome_of g.result) g.new.area g.ensures _ (ap outcome_of c.in_ok-c.was)

pub returns : goal.returns
returns c = let a = c.args in let g = c.boundary_in in called a.n a.elements.now a.surface.now a.work.now (sym c.call_fits.ensures ∙ c.if-not-call_fits.false) c.copy_over.new.to c.copy_over.ensures (outcome_of g.result) g.new.area g.ensures _ (ap outcome_of c.in_ok-c.was) g.auto.area c.copy_over-2.new.to c.copy_over-2.ensures c.zero_all-2.new.s c.zero_all-2.ensures

pub returns-in_err-c : goal.returns-in_err-c
returns-in_err-c c = let a = c.args in let g = c.boundary_in in let p = err_from_is_err_and c.from_residual.result c.from_residual.ensures.1 in rw (p.1, p.2) (refused a.n a.elements.now a.surface.now a.work.now (sym c.call_fits.ensures ∙ c.if-not-call_fits.false) c.copy_over.new.to c.copy_over.ensures (outcome_of g.result) g.new.area g.ensures _ (ap outcome_of c.in_err-c.was))

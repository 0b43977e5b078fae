-- `mesh::intake::check_boundary` meets its contract: the area holds the elements, and is cleared behind a surface. Assumes nothing.
use Rattle.std.proofs.Common.{sym, ap, ◌∙◌}
use Rattle.std.proofs.lemmas.Result.{err_from_is_err_and}
use Rattle.mesh.specs.Surface.{outcome_of}
use Rattle.mesh.specs.Intake.{refusal_of}
use Rattle.mesh.proofs.Laws.Intake.Last.{last-number, refused-last, last-zeros}
use Rattle.mesh.proofs.intake.check_boundary.Goals as goal

pub returns : goal.returns
returns c = let a = c.args in let g = c.boundary_in in
    record { value = sym (ap (λ r. refusal_of (outcome_of r)) c.in_ok-boundary_in.was) ∙ last-number a.n a.elements.now a.work.now c.requires.n_bound.0 c.requires.n_bound.1 c.requires.n_bound.2 c.requires.work_value c.copy_over.new.to c.copy_over.ensures (outcome_of g.result) g.new.area g.ensures; work_after = last-zeros a.n a.elements.now a.work.now c.requires.n_bound.0 c.requires.n_bound.1 c.requires.n_bound.2 c.requires.work_value c.copy_over.new.to c.copy_over.ensures g.new.area g.auto.area c.zero_all.new.s c.zero_all.ensures }

pub returns-in_err-boundary_in : goal.returns-in_err-boundary_in
returns-in_err-boundary_in c = let a = c.args in let g = c.boundary_in in
    let p = err_from_is_err_and c.from_residual.result c.from_residual.ensures.1 in
    rw (p.1, p.2) record { value = sym (ap (λ r. refusal_of (outcome_of r)) c.in_err-boundary_in.was) ∙ last-number a.n a.elements.now a.work.now c.requires.n_bound.0 c.requires.n_bound.1 c.requires.n_bound.2 c.requires.work_value c.copy_over.new.to c.copy_over.ensures (outcome_of g.result) g.new.area g.ensures; work_after = refused-last a.n a.elements.now a.work.now c.requires.n_bound.0 c.requires.n_bound.1 c.requires.n_bound.2 c.requires.work_value c.copy_over.new.to c.copy_over.ensures g.ensures (ap outcome_of c.in_err-boundary_in.was) }

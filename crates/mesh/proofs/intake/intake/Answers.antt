-- `mesh::intake::intake` meets its contract: the numbers 10 to 15, then the boundary's; the floats are cleared between. Assumes nothing.
use Rattle.std.proofs.Common.{ap, arith}
use Rattle.std.proofs.lemmas.Result.{err_from_is_err_and}
use Rattle.mesh.specs.Refusal.{number_in}
use Rattle.mesh.proofs.Laws.Refusal.{number_above}
use Rattle.mesh.proofs.Laws.Intake.Table.{intake-stop, intake-go, boundary-room}
use Rattle.mesh.proofs.intake.intake.Goals as goal

pub returns-in_err-numbers-clause-value : goal.returns-in_err-numbers-clause-value
returns-in_err-numbers-clause-value c =
    let a = c.args in
    let e = c.in_err-numbers in
    let p = err_from_is_err_and c.from_residual.result c.from_residual.ensures.1 in
    rw (p.1, p.2) (intake-stop a.s a.fields a.parameters.now a.points.now a.masks a.elements.now a.surface a.work.now a.floats.now _ e.ensures.value (λ z. omega (arith, z, number_above e.field-0.0)))

pub check_boundary-requires-clause-n_bound : goal.check_boundary-requires-clause-n_bound
check_boundary-requires-clause-n_bound c =
    let a = c.args in
    let n = c.check_numbers-numbers in
    let l = n.auto.work in
    let r = boundary-room a.s a.fields a.parameters.now a.points.now a.masks a.elements.now a.surface a.work.now a.floats.now (number_in n.result) n.ensures.value (ap number_in c.in_ok-numbers.was) in
    (r.0, r.1, omega (arith, r.2, l))

pub returns-clause-value : goal.returns-clause-value
returns-clause-value c =
    let a = c.args in
    let n = c.check_numbers-numbers in
    let b = c.check_boundary in
    intake-go a.s a.fields a.parameters.now a.points.now a.masks a.elements.now a.surface a.work.now a.floats.now (number_in n.result) n.ensures.value (ap number_in c.in_ok-numbers.was) (number_in b.result) b.ensures.value

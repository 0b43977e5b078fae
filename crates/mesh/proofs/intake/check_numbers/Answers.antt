-- `mesh::intake::check_numbers` meets its contract, by those of the functions it calls. Assumes nothing.
use Rattle.std.proofs.Common.{length, ap, arith}
use Rattle.std.proofs.lemmas.Result.{err_from_is_err_and}
use Rattle.mesh.specs.Refusal.{number_in}
use Rattle.mesh.proofs.Laws.Refusal.{number_above}
use Rattle.mesh.proofs.Laws.Intake.Table.{numbers-stop, numbers-go, room-left}
use Rattle.mesh.proofs.intake.check_numbers.Goals as goal

pub returns-in_err-check_settings-clause-value : goal.returns-in_err-check_settings-clause-value
returns-in_err-check_settings-clause-value c =
    let a = c.args in
    let e = c.in_err-check_settings in
    let p = err_from_is_err_and c.from_residual.result c.from_residual.ensures.1 in
    rw (p.1, p.2) (numbers-stop a.s a.fields a.parameters.now a.points.now a.masks a.elements.now a.surface a.work.now a.floats.now (length c.zero_all.new.s) _ c.zero_all.auto.s e.ensures (λ z. omega (arith, z, number_above e.field-0.0)))

pub check_mesh-requires-clause-elements_bound : goal.check_mesh-requires-clause-elements_bound
check_mesh-requires-clause-elements_bound c =
    let a = c.args in
    room-left a.s a.fields a.parameters.now a.points.now a.masks a.elements.now a.surface a.work.now a.floats.now (length c.zero_all.new.s) (number_in c.check_settings.result) c.zero_all.auto.s c.check_settings.ensures (ap number_in c.in_ok-check_settings.was)

pub returns-clause-value : goal.returns-clause-value
returns-clause-value c =
    let a = c.args in
    numbers-go a.s a.fields a.parameters.now a.points.now a.masks a.elements.now a.surface a.work.now a.floats.now (length c.zero_all.new.s) (number_in c.check_settings.result) c.zero_all.auto.s c.check_settings.ensures (ap number_in c.in_ok-check_settings.was) (number_in c.check_mesh.result) c.check_mesh.ensures.value

-- `repair::smooth::smooth` meets its contract. Assumes nothing.
use native.Mathlib.Omega.{arith}
use Rattle.std.proofs.lemmas.Result.{err_from_is_err_and}
use Rattle.mesh.specs.Refusal.{number_in}
use Rattle.mesh.proofs.Laws.Refusal.{number_above}
use Rattle.mesh.specs.Words.{points_of}
use Rattle.mesh.specs.Group.{groups}
use Rattle.repair.specs.Step.{regions_in}
use Rattle.repair.specs.inside.smooth.Site.{state_of, mesh_read, used_words}
use Rattle.repair.proofs.Laws.Answers.{in-numbers}
use Rattle.repair.proofs.Laws.Site.Pass.{turned-with, pass-refused, fits, numbered, part-long, work-zeros, pass-done}
use mathlib.Core.Path.{refl, ap}
use Rattle.repair.proofs.smooth.smooth.Goals as goal

pub returns-in_err-intake : goal.returns-in_err-intake
returns-in_err-intake c =
    let a = c.args in
    let R = regions_in a.regions in
    let i = c.intake in
    let p = err_from_is_err_and c.from_residual.result c.from_residual.ensures.1 in
    rw (p.1, p.2) record { fact = in-numbers (pass-refused a.s a.fields R a.parameters.now a.points.now a.masks.now a.elements.now a.surface.now a.work.now a.floats.now _ c.in_err-intake.ensures.value (λ z. omega (arith, z, number_above c.in_err-intake.field-0.0))); work_after = i.ensures.work_after; floats_after = i.ensures.floats_after }

pub overflow_mul-used : goal.overflow_mul-used
overflow_mul-used c =
    let a = c.args in
    let i = c.intake in
    let f = fits a.s a.fields (regions_in a.regions) a.parameters.now a.points.now a.masks.now a.elements.now a.surface.now a.work.now a.floats.now (number_in i.result) i.ensures.value (ap number_in c.in_ok-intake.was) in
    omega (arith, f.vertices)

pub overflow_mul-used-2 : goal.overflow_mul-used-2
overflow_mul-used-2 c =
    let a = c.args in
    let i = c.intake in
    let f = fits a.s a.fields (regions_in a.regions) a.parameters.now a.points.now a.masks.now a.elements.now a.surface.now a.work.now a.floats.now (number_in i.result) i.ensures.value (ap number_in c.in_ok-intake.was) in
    omega (arith, f.elements)

pub overflow_add-used : goal.overflow_add-used
overflow_add-used c =
    let a = c.args in
    let i = c.intake in
    let f = fits a.s a.fields (regions_in a.regions) a.parameters.now a.points.now a.masks.now a.elements.now a.surface.now a.work.now a.floats.now (number_in i.result) i.ensures.value (ap number_in c.in_ok-intake.was) in
    omega (arith, f.vertices, f.elements)

pub slice_bounds-smooth_in-end : goal.slice_bounds-smooth_in-end
slice_bounds-smooth_in-end c =
    let a = c.args in
    let R = regions_in a.regions in
    let i = c.intake in
    let f = fits a.s a.fields R a.parameters.now a.points.now a.masks.now a.elements.now a.surface.now a.work.now a.floats.now (number_in i.result) i.ensures.value (ap number_in c.in_ok-intake.was) in
    omega (arith, f.words, i.auto.work)

pub smooth_in-moved-requires : goal.smooth_in-moved-requires
smooth_in-moved-requires c =
    let a = c.args in
    let R = regions_in a.regions in
    let i = c.intake in
    let f = fits a.s a.fields R a.parameters.now a.points.now a.masks.now a.elements.now a.surface.now a.work.now a.floats.now (number_in i.result) i.ensures.value (ap number_in c.in_ok-intake.was) in
    let l = part-long (used_words a.s.sizes.vertices a.s.sizes.elements) i.new.work (omega (arith, f.words, i.auto.work)) in
    record { room = (f.vertices, f.elements, omega (arith, l)); elements = (omega (arith, f.slots), numbered a.s a.fields R a.parameters.now a.points.now a.masks.now a.elements.now a.surface.now a.work.now a.floats.now (number_in i.result) i.ensures.value (ap number_in c.in_ok-intake.was)); fit = (f.parameters, f.points) }

pub returns : goal.returns
returns c =
    let a = c.args in
    let R = regions_in a.regions in
    let i = c.intake in
    let f = fits a.s a.fields R a.parameters.now a.points.now a.masks.now a.elements.now a.surface.now a.work.now a.floats.now (number_in i.result) i.ensures.value (ap number_in c.in_ok-intake.was) in
    let m = c.smooth_in-moved in
    record { fact = in-numbers (pass-done a.s a.fields R a.parameters.now a.points.now a.masks.now a.elements.now a.surface.now a.work.now a.floats.now (number_in i.result) i.ensures.value (ap number_in c.in_ok-intake.was) _ _ m.result (turned-with a.s.options (mesh_read a.s.sizes.vertices a.s.sizes.elements a.masks.now a.elements.now) (state_of a.s.sizes.vertices a.parameters.now a.points.now 0) (groups a.s.options (points_of a.s.sizes.vertices a.parameters.now)) a.s.sizes.vertices c.first.ensures refl m.ensures.turned)); work_after = work-zeros (used_words a.s.sizes.vertices a.s.sizes.elements) _ i.new.work _ (omega (arith, f.words, i.auto.work)) i.auto.work i.ensures.work_after m.ensures.work_after; floats_after = i.ensures.floats_after }

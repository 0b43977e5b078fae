-- `repair::flip::flip` meets its contract: refused by intake, or made. Assumes nothing.
use mathlib.Core.Path.{refl, sym, ap, ◌∙◌}
use mathlib.Core.Option.{none}
use native.Mathlib.Omega.{arith}
use Rattle.std.proofs.lemmas.Result.{err_from_is_err_and}
use Rattle.mesh.specs.Refusal.{number_in}
use Rattle.mesh.proofs.Laws.Refusal.{number_above}
use Rattle.repair.specs.Answer.{answer_of}
use Rattle.repair.specs.Step.{Pass, held, call_of}
use Rattle.repair.proofs.Laws.Answers.{in-numbers}
use Rattle.repair.proofs.Laws.Entry.{call-refused, call-made, lengths}
use Rattle.repair.proofs.Laws.Flip.Passed.{flip-fitting, flip-result, flip-finished}
use Rattle.repair.proofs.flip.flip.Goals as goal

pub returns-in_err-intake-clause-fact : goal.returns-in_err-intake-clause-fact
returns-in_err-intake-clause-fact c =
    let a = c.args in
    let k = call_of Pass.flip a.s a.fields none a.work.now a.floats.now in
    let s = held a.s.sizes a.parameters.now a.points.now a.masks.now a.elements.now a.surface.now in
    let i = c.intake in
    let p = err_from_is_err_and c.from_residual.result c.from_residual.ensures.1 in
    rw (p.1, p.2) (in-numbers (call-refused k s a.work.now a.floats.now refl refl _ c.in_err-intake.ensures.value (λ z. omega (arith, z, number_above c.in_err-intake.field-0.0))))

pub flip_all-answer-requires : goal.flip_all-answer-requires
flip_all-answer-requires c =
    let a = c.args in
    let k = call_of Pass.flip a.s a.fields none a.work.now a.floats.now in
    let s = held a.s.sizes a.parameters.now a.points.now a.masks.now a.elements.now a.surface.now in
    let i = c.intake in
    flip-fitting k s a.work.now a.floats.now refl refl (number_in i.result) i.ensures.value (ap number_in c.in_ok-intake.was) _ i.ensures.work_after

pub returns-clause-fact : goal.returns-clause-fact
returns-clause-fact c =
    let a = c.args in
    let k = call_of Pass.flip a.s a.fields none a.work.now a.floats.now in
    let s = held a.s.sizes a.parameters.now a.points.now a.masks.now a.elements.now a.surface.now in
    let i = c.intake in
    let m = c.flip_all-answer in
    let f = lengths k s a.work.now a.floats.now refl refl (number_in i.result) i.ensures.value (ap number_in c.in_ok-intake.was) in
    in-numbers (flip-finished k s f (answer_of m.result) _ _ m.ensures ∙ flip-result k s refl ∙ sym (call-made k s a.work.now a.floats.now refl refl (number_in i.result) i.ensures.value (ap number_in c.in_ok-intake.was)))

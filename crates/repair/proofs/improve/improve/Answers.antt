-- `repair::improve::improve` meets its contract: refused by intake, or made. Assumes nothing.
use mathlib.Core.Path.{refl, sym, ap, ◌∙◌}
use mathlib.Core.Option.{none}
use Prim.Native.Nat.{ℕ}
use native.Mathlib.Omega.{arith}
use Rattle.std.proofs.lemmas.Result.{err_from_is_err_and}
use Rattle.mesh.specs.Refusal.{number_in}
use Rattle.mesh.proofs.Laws.Refusal.{number_above}
use Rattle.repair.specs.Step.{Pass, held, call_of, mesh_of}
use Rattle.repair.proofs.Laws.Answers.{in-numbers}
use Rattle.repair.proofs.Laws.Entry.{call-refused, call-made, lengths, fitting, end-buffers, improve-result}
use Rattle.repair.proofs.Laws.Passed.{reads, part-area, part-ended}
use Rattle.std.proofs.Common.{◌≡◌, rules, List}
use lib.Ieee.{Float}
use Rattle.mesh.specs.declared.intake.Sizes.{Sizes}
use Rattle.repair.specs.declared.improve.buffers.Buffers.{Buffers}
use Rattle.repair.specs.Step.{Answer, State}
use Rattle.repair.specs.inside.improve.Renumber.{state_in}
use Rattle.repair.proofs.improve.improve.Goals as goal

-- what the struct of the buffers ends with is what they end with
in-buffers : {ps qs : List Float} {ms es ss : List ℕ} (b : Buffers) → ps ≡ b.parameters.now → qs ≡ b.points.now → ms ≡ b.masks.now → es ≡ b.elements.now → ss ≡ b.surface.now
    → {a : Answer} {z : Sizes} {r : Answer × State} → ◌≡◌ {A = Answer × State} (a, state_in z b) r → ◌≡◌ {A = Answer × State} (a, held z ps qs ms es ss) r
in-buffers b e f g h k q = rw (e, f, g, h, k) q

pub returns-in_err-intake-clause-fact : goal.returns-in_err-intake-clause-fact
returns-in_err-intake-clause-fact c =
    let a = c.args in
    let k = call_of Pass.improve a.s a.fields none a.work.now a.floats.now in
    let s = held a.s.sizes a.parameters.now a.points.now a.masks.now a.elements.now a.surface.now in
    let i = c.intake in
    let p = err_from_is_err_and c.from_residual.result c.from_residual.ensures.1 in
    rw (p.1, p.2) (in-numbers (call-refused k s a.work.now a.floats.now refl refl _ c.in_err-intake.ensures.value (λ z. omega (arith, z, number_above c.in_err-intake.field-0.0))))

pub collapse_edges-rest-requires : goal.collapse_edges-rest-requires
collapse_edges-rest-requires c =
    let a = c.args in
    let k = call_of Pass.improve a.s a.fields none a.work.now a.floats.now in
    let s = held a.s.sizes a.parameters.now a.points.now a.masks.now a.elements.now a.surface.now in
    let i = c.intake in
    let e = ap number_in c.in_ok-intake.was in
    (fitting k s a.work.now a.floats.now refl refl (number_in i.result) i.ensures.value e _ i.ensures.work_after, (lengths k s a.work.now a.floats.now refl refl (number_in i.result) i.ensures.value e).masks)

pub offset_bounds-work-a : goal.offset_bounds-work-a
offset_bounds-work-a c =
    let a = c.args in
    let s = held a.s.sizes a.parameters.now a.points.now a.masks.now a.elements.now a.surface.now in
    let h = c.collapse_edges-rest.ensures (mesh_of s) (reads s) in
    let l = h.low in
    omega arith

pub slice_bounds-finish_improve-count : goal.slice_bounds-finish_improve-count
slice_bounds-finish_improve-count c =
    let a = c.args in
    let s = held a.s.sizes a.parameters.now a.points.now a.masks.now a.elements.now a.surface.now in
    let h = c.collapse_edges-rest.ensures (mesh_of s) (reads s) in
    h.inside

pub slice_bounds-finish_improve-start : goal.slice_bounds-finish_improve-start
slice_bounds-finish_improve-start c =
    let a = c.args in
    let s = held a.s.sizes a.parameters.now a.points.now a.masks.now a.elements.now a.surface.now in
    let h = c.collapse_edges-rest.ensures (mesh_of s) (reads s) in
    h.inside

pub finish_improve-answer-requires : goal.finish_improve-answer-requires
finish_improve-answer-requires c =
    let a = c.args in
    let k = call_of Pass.improve a.s a.fields none a.work.now a.floats.now in
    let s = held a.s.sizes a.parameters.now a.points.now a.masks.now a.elements.now a.surface.now in
    let i = c.intake in
    let h = c.collapse_edges-rest.ensures (mesh_of s) (reads s) in
    (part-area s a.s.options c.collapse_edges-rest.new.work c.collapse_edges-rest.result h, end-buffers k s a.work.now a.floats.now refl refl (number_in i.result) i.ensures.value (ap number_in c.in_ok-intake.was) _ h.few i.auto.floats)

pub returns-clause-fact : goal.returns-clause-fact
returns-clause-fact c =
    let a = c.args in
    let k = call_of Pass.improve a.s a.fields none a.work.now a.floats.now in
    let s = held a.s.sizes a.parameters.now a.points.now a.masks.now a.elements.now a.surface.now in
    let i = c.intake in
    let l = c.collapse_edges-rest in
    let h = l.ensures (mesh_of s) (reads s) in
    let m = c.finish_improve-answer in
    in-numbers (in-buffers m.new.mesh (search rules) (search rules) (search rules) (search rules) (search rules) m.ensures.ended ∙ part-ended s a.s.options l.new.work l.result h ∙ improve-result k s refl ∙ sym (call-made k s a.work.now a.floats.now refl refl (number_in i.result) i.ensures.value (ap number_in c.in_ok-intake.was)))

-- `repair::flip::two_to_three::try_face` meets its contract. Assumes nothing.
use Rattle.std.proofs.Common.{sym, refl, ◌∙◌}
use Rattle.mesh.specs.Words.{points_in}
use Rattle.mesh.specs.Measure.{measure}
use Rattle.repair.specs.inside.improve.Collapse.{slot_at}
use Rattle.repair.proofs.Laws.Flip.Layout.{live-none, live-some}
use Rattle.repair.proofs.Laws.Flip.FaceTried.{face-first, face-second, face-edge, face-made}
use Rattle.repair.proofs.flip.two_to_three.try_face.Goals as goal

pub returns-in_default-clause-by_index : goal.returns-in_default-clause-by_index
returns-in_default-clause-by_index c =
    let a = c.args in let x = a.given.now.index in let μ = measure (points_in a.given.now.points) in
    λ n ts s z l fl st b. face-first μ x n a.t a.work.now ts s a.f a.i a.j z l fl st b (slot_at x a.work.now a.i) (slot_at x a.work.now a.j) refl refl (live-none _ (sym c.live_slot.ensures ∙ c.in_default.is))

pub returns-in_default-live_slot-clause-by_index : goal.returns-in_default-live_slot-clause-by_index
returns-in_default-live_slot-clause-by_index c =
    let a = c.args in let x = a.given.now.index in let μ = measure (points_in a.given.now.points) in
    let p = live-some _ _ (sym c.live_slot.ensures ∙ c.in-Some.is) in
    λ n ts s z l fl st b. face-second μ x n a.t a.work.now ts s a.f a.i a.j z l fl st b _ (slot_at x a.work.now a.j) p.0 refl p.1 (live-none _ (sym c.live_slot-2.ensures ∙ c.in_default-live_slot.is))

pub returns-then-any_live-clause-by_index : goal.returns-then-any_live-clause-by_index
returns-then-any_live-clause-by_index c =
    let a = c.args in let x = a.given.now.index in let μ = measure (points_in a.given.now.points) in
    let p = live-some _ _ (sym c.live_slot.ensures ∙ c.in-Some.is) in
    let q = live-some _ _ (sym c.live_slot-2.ensures ∙ c.in-Some-live_slot.is) in
    λ n ts s z l fl st b. face-edge μ x n a.t a.work.now ts s a.f a.i a.j z l fl st b _ _ p.0 q.0 p.1 q.1 _ _ c.apex-a.ensures c.apex-b.ensures _ c.any_live.ensures c.if-any_live.true

pub returns-clause-by_index : goal.returns-clause-by_index
returns-clause-by_index c =
    let a = c.args in let x = a.given.now.index in let μ = measure (points_in a.given.now.points) in
    let p = live-some _ _ (sym c.live_slot.ensures ∙ c.in-Some.is) in
    let q = live-some _ _ (sym c.live_slot-2.ensures ∙ c.in-Some-live_slot.is) in
    λ n ts s z l fl st b. face-made μ x n a.t a.work.now ts s a.f a.i a.j z l fl st b _ _ p.0 q.0 p.1 q.1 _ _ c.apex-a.ensures c.apex-b.ensures _ c.any_live.ensures c.if-any_live.false _ c.three_about-new.ensures _ _ c.replace.ensures.by_index

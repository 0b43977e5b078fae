-- `candidates::allowed` meets its contract, test by test. Assumes nothing.
use Rattle.std.proofs.Common.{◌≡◌, Bool, not, ◌&&◌, ◌||◌, ◌∙◌, sym, ap, length, eqb}
use lib.Ieee.{lt, of_bits}
use Rattle.geometry.specs.Float.{◌*₆₄◌}
use Rattle.geometry.specs.Literals.{half}
use Rattle.geometry.specs.Point.{difference, norm}
use Rattle.geometry.specs.Bounds.{spacing}
use Rattle.mesh.specs.Intake.{in_box}
use Rattle.repair.specs.Smooth.{outside_all}
use Rattle.repair.specs.Step.{regions_in}
use Rattle.repair.proofs.Laws.Candidate.Tests.{third, no_third}
use Rattle.repair.proofs.smooth.candidates.allowed.Goals.{then-in_box, else-in_box}
use Rattle.repair.proofs.smooth.candidates.allowed.Goals as goal

pub returns-then-is_empty : goal.returns-then-is_empty
unfolding of_bits
returns-then-is_empty c =
    let o = c.args.o in
    let p = c.args.p in
    let far = lt (half *₆₄ spacing o) (norm (difference p c.args.origin)) in
    let k : c.if-in_box.value ≡ (in_box o.bounds p && not far) = elim c.if-in_box.branch [
      | then-in_box w ↦ w.value-is ∙ (λ i. not (lt (half *₆₄ w.spacing.ensures i) ((w.norm.ensures ∙ ap norm w.sub.ensures) i))) ∙ ap (λ (b : Bool). b && not far) (sym w.if-in_box.true ∙ c.in_box.ensures)
      | else-in_box w ↦ w.value-is ∙ w.if-in_box.false ∙ ap (λ (b : Bool). b && not far) (sym w.if-in_box.false ∙ c.in_box.ensures)
    ] in
    third (in_box o.bounds p) (not far) k c.if-not-spacing-norm.true
    (c.if-is_empty.true ∙ sym (ap (λ (b : Bool). b || not (outside_all p c.args.regions.fields.list.now (regions_in c.args.regions.masks))) (sym c.if-is_empty.ensures)))

pub returns-else-is_empty : goal.returns-else-is_empty
unfolding of_bits
returns-else-is_empty c =
    let o = c.args.o in
    let p = c.args.p in
    let far = lt (half *₆₄ spacing o) (norm (difference p c.args.origin)) in
    let k : c.if-in_box.value ≡ (in_box o.bounds p && not far) = elim c.if-in_box.branch [
      | then-in_box w ↦ w.value-is ∙ (λ i. not (lt (half *₆₄ w.spacing.ensures i) ((w.norm.ensures ∙ ap norm w.sub.ensures) i))) ∙ ap (λ (b : Bool). b && not far) (sym w.if-in_box.true ∙ c.in_box.ensures)
      | else-in_box w ↦ w.value-is ∙ w.if-in_box.false ∙ ap (λ (b : Bool). b && not far) (sym w.if-in_box.false ∙ c.in_box.ensures)
    ] in
    third (in_box o.bounds p) (not far) k c.if-not-spacing-norm.true
    (ap not c.outside_all.ensures ∙ sym (ap (λ (b : Bool). b || not (outside_all p c.args.regions.fields.list.now (regions_in c.args.regions.masks))) (sym c.if-is_empty.ensures)))

pub returns-else-not-spacing-norm : goal.returns-else-not-spacing-norm
unfolding of_bits
returns-else-not-spacing-norm c =
    let o = c.args.o in
    let p = c.args.p in
    let far = lt (half *₆₄ spacing o) (norm (difference p c.args.origin)) in
    let k : c.if-in_box.value ≡ (in_box o.bounds p && not far) = elim c.if-in_box.branch [
      | then-in_box w ↦ w.value-is ∙ (λ i. not (lt (half *₆₄ w.spacing.ensures i) ((w.norm.ensures ∙ ap norm w.sub.ensures) i))) ∙ ap (λ (b : Bool). b && not far) (sym w.if-in_box.true ∙ c.in_box.ensures)
      | else-in_box w ↦ w.value-is ∙ w.if-in_box.false ∙ ap (λ (b : Bool). b && not far) (sym w.if-in_box.false ∙ c.in_box.ensures)
    ] in
    no_third (in_box o.bounds p) (not far) (eqb (length c.args.active.list.now) 0 || not (outside_all p c.args.regions.fields.list.now (regions_in c.args.regions.masks))) k c.if-not-spacing-norm.false

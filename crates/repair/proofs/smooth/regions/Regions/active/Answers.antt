-- `regions::Regions::active` meets its contract. The invariant: the first n of `active` and the fields left are the fields chosen. Assumes nothing.
use Rattle.std.proofs.Common.{◌≡◌, ◌≤◌, ◌+◌, ◌/◌, ◌∙◌, ◌++◌, length, take, drop, ap, arith}
use lib.ListN.{length-set}
use lib.Ieee.{nan}
use Rattle.geometry.specs.declared.field.Field.TheVariants.{Level}
use Rattle.repair.specs.Smooth.{chosen}
use Rattle.repair.proofs.Laws.Candidate.Chosen.{gather-put, gather-skip, gather-end}
use Rattle.repair.proofs.smooth.regions.Regions.active.Goals.{then-bits-eq1, else-bits-eq1}
use Rattle.repair.proofs.smooth.regions.Regions.active.Goals as goal

pub loop-f-preserved : goal.loop-f-preserved
loop-f-preserved c =
    let F = c.args.self.fields.list.now in
    let l = c.loop-f in
    let i = l.f-index in
    let j = c.if-bits-eq1 in
    let long : length j.active ≡ 8 = elim j.branch [
      | then-bits-eq1 w ↦ ap length w.active-is ∙ length-set l.active l.n _ ∙ l.invariant.0
      | else-bits-eq1 w ↦ ap length w.active-is ∙ l.invariant.0
    ] in
    let few : j.n ≤ i + 1 = elim j.branch [ then-bits-eq1 w ↦ omega (arith, w.n-is) | else-bits-eq1 w ↦ omega (arith, w.n-is) ] in
    let rest : take j.n j.active ++ chosen (l.bits / 2) (drop (i + 1) F) ≡ chosen c.args.mask F = elim j.branch [
      | then-bits-eq1 w ↦ (λ t. take (w.n-is t) (w.active-is t) ++ chosen (l.bits / 2) (drop (i + 1) F)) ∙ gather-put F i l.bits l.n l.active (Level nan) c.loop-f-test.true (omega arith) w.if-bits-eq1.true l.invariant.2
      | else-bits-eq1 w ↦ (λ t. take (w.n-is t) (w.active-is t) ++ chosen (l.bits / 2) (drop (i + 1) F)) ∙ gather-skip F i l.bits l.n l.active (Level nan) c.loop-f-test.true w.if-bits-eq1.false l.invariant.2
    ] in
    (long, few, rest)

pub returns : goal.returns
returns c =
    let l = c.loop-f in
    (l.invariant.0, omega arith, gather-end c.args.self.fields.list.now l.f-index l.bits l.n l.active c.loop-f-test.false l.invariant.2)

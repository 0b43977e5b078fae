-- `regions::Regions::outside_region` meets its contract. The invariant: what is left of the fields chosen is the whole. Assumes nothing.
use Rattle.std.proofs.Common.{◌∙◌, sym, ap}
use lib.Ieee.{nan, lt, of_bits}
use Rattle.geometry.specs.Literals.{e_9}
use Rattle.geometry.specs.declared.field.Field.TheVariants.{Level}
use Rattle.repair.proofs.Laws.Candidate.Chosen.{outside-hit, outside-miss, outside-past, outside-end}
use Rattle.repair.proofs.smooth.regions.Regions.outside_region.Goals.{else-bits-eq1-via-then-bits-eq1+else-value, else-bits-eq1-via-else-bits-eq1}
use Rattle.repair.proofs.smooth.regions.Regions.outside_region.Goals as goal

pub returns-then-value : goal.returns-then-value
unfolding of_bits
returns-then-value c =
    let l = c.loop-f in
    outside-hit c.args.self.fields.list.now l.f-index c.args.p l.bits (Level nan) c.loop-f-test.true c.if-bits-eq1.true (sym (ap (lt e_9) c.value.ensures) ∙ c.if-value.true) l.invariant

pub loop-f-preserved : goal.loop-f-preserved
unfolding of_bits
loop-f-preserved c =
    let l = c.loop-f in
    elim c.else-bits-eq1.branch [
      | else-bits-eq1-via-then-bits-eq1+else-value w ↦ outside-miss c.args.self.fields.list.now l.f-index c.args.p l.bits (Level nan) c.loop-f-test.true w.if-bits-eq1.true (sym (ap (lt e_9) w.value.ensures) ∙ w.if-value.false) l.invariant
      | else-bits-eq1-via-else-bits-eq1 w ↦ outside-past c.args.self.fields.list.now l.f-index c.args.p l.bits (Level nan) c.loop-f-test.true w.if-bits-eq1.false l.invariant
    ]

pub returns : goal.returns
returns c = outside-end c.args.self.fields.list.now c.loop-f.f-index c.args.p c.loop-f.bits c.loop-f-test.false c.loop-f.invariant

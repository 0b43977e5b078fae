-- `repair::flip::replace::empty_slots` meets its contract. Assumes nothing.
use Rattle.repair.proofs.Laws.Flip.Replaced.{emptying-turn, emptying-end}
use Rattle.repair.proofs.flip.replace.empty_slots.Goals as goal

pub loop-e-preserved : goal.loop-e-preserved
loop-e-preserved c = emptying-turn c.loop-e.invariant c.loop-e-test.true _ c.empty_slot.auto.work c.empty_slot.ensures

pub returns : goal.returns
returns c = emptying-end c.loop-e.invariant c.loop-e-test.false

-- `repair::flip::replace::add_slots` meets its contract. Assumes nothing.
use Rattle.repair.proofs.Laws.Flip.Replaced.{adding-start, adding-turn, adding-end}
use Rattle.repair.proofs.flip.replace.add_slots.Goals as goal

pub loop-i-init : goal.loop-i-init
loop-i-init c = adding-start c.args.x c.args.c c.args.new.now c.args.work.now

pub loop-i-preserved : goal.loop-i-preserved
loop-i-preserved c = adding-turn c.loop-i.invariant _ c.loop-i-test.true _ c.add_slot.auto.work c.add_slot.ensures

pub returns : goal.returns
returns c = adding-end c.loop-i.invariant c.loop-i-test.false

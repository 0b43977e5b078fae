-- `repair::slots::slot` meets its contract. Assumes nothing.
use Rattle.repair.proofs.Laws.Flip.Held.{slot_is}
use Rattle.repair.proofs.slots.slot.Goals as goal

pub returns : goal.returns
returns c = slot_is c.args.x c.args.work.now c.args.e c.element_from.ensures

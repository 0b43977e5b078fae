-- `repair::flip::slots::empty_slot` meets its contract. Assumes nothing.
use Rattle.repair.proofs.Laws.Flip.Written.{slot-emptied}
use Rattle.repair.proofs.flip.slots.empty_slot.Goals as goal

pub returns : goal.returns
returns c = λ n k s h z. slot-emptied z c.args.e h _ c.put_slot.ensures

-- `repair::improve::collapse::replace_in_slot` meets its contract: the slot read, replaced and written. Assumes nothing.
use mathlib.Core.Path.{ap, ◌∙◌}
use Prim.Native.Nat.{◌+◌, ◌*◌}
use Rattle.repair.specs.inside.improve.Collapse.{slot_after, put_slot, slot_replaced}
use Rattle.repair.proofs.improve.collapse.replace_in_slot.Goals as goal

pub returns : goal.returns
unfolding slot_replaced
returns c =
    let a = c.args in
    c.put_slot.ensures ∙ ap (put_slot a.work.now (a.x.slots + 4 * a.k)) (c.slot_after.ensures ∙ ap (slot_after a.e.a a.e.b) c.slot-t.ensures)

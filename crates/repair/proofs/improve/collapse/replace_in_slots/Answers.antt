-- `repair::improve::collapse::replace_in_slots` meets its contract. The invariant: what is left of the list gives the whole. Assumes nothing.
use mathlib.Core.Path.{◌∙◌}
use native.Mathlib.Omega.{arith}
use Rattle.repair.proofs.Laws.Replace.Turns.{slots-turn, slots-done}
use Rattle.repair.proofs.improve.collapse.replace_in_slots.Goals as goal

pub loop-q-preserved : goal.loop-q-preserved
loop-q-preserved c = (omega arith, c.replace_in_slot.auto.work ∙ c.loop-q.invariant.1, slots-turn c.args.x c.args.e.a c.args.e.b _ c.loop-q.q c.loop-q.work _ c.loop-q.invariant.2 c.loop-q-test.true _ _ c.at-k.ensures c.replace_in_slot.ensures)

pub returns : goal.returns
returns c = slots-done c.args.x c.args.e.a c.args.e.b _ c.loop-q.q c.loop-q.work _ c.loop-q.invariant.2 c.loop-q-test.false

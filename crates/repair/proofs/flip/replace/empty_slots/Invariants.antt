-- `repair::flip::replace::empty_slots` meets its contract. The invariant: the slots so far are emptied. Assumes nothing.
use Rattle.repair.proofs.Laws.Flip.Replaced.{Emptying}
use Rattle.repair.proofs.flip.replace.empty_slots.Given as goal

abbrev pub invariant-loop-e : goal.invariant-loop-e
invariant-loop-e l = Emptying l.x l.at l.initial.work l.work l.e-index

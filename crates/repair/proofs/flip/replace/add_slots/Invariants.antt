-- `repair::flip::replace::add_slots` meets its contract. The invariant: the elements so far are added. Assumes nothing.
use Rattle.repair.proofs.Laws.Flip.Replaced.{Adding}
use Rattle.repair.proofs.flip.replace.add_slots.Given as goal

abbrev pub invariant-loop-i : goal.invariant-loop-i
invariant-loop-i l = Adding l.x l.c l.new l.initial.work l.work l.i

-- `repair::flip::finish::put_keys` meets its contract. Assumes nothing.
use Rattle.repair.proofs.Laws.Flip.Keys.{Keying}
use Rattle.repair.proofs.flip.finish.put_keys.Given as goal

abbrev pub invariant-loop-j : goal.invariant-loop-j
invariant-loop-j l = Keying l.i l.d l.c l.initial.area l.area l.j

-- `repair::flip::three_to_two::others` meets its contract. The invariant: the vertices of the elements so far are put. Assumes nothing.
use Rattle.repair.proofs.Laws.Flip.Others.{PuttingElements}
use Rattle.repair.proofs.flip.three_to_two.others.Given as goal

abbrev pub invariant-loop-t : goal.invariant-loop-t
invariant-loop-t l = PuttingElements l.e l.initial.area l.old l.area l.n l.t-index

-- `repair::improve::renumber::list_values` meets its contract. The invariant: the values of the first i vertices are listed. Assumes nothing.
use Rattle.repair.proofs.Laws.Finish.Moved.{Gathered}
use Rattle.repair.proofs.improve.renumber.list_values.Given as goal

abbrev pub invariant-loop-i : goal.invariant-loop-i
invariant-loop-i g l = Gathered g.T.Zero.zero l.values g.row.W l.vertices l.initial.list l.i l.list

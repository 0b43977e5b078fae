-- `repair::improve::partners::has_active` meets its contract. The invariant is `Counted`: as many are wanted still as are left. Assumes nothing.
use Rattle.repair.proofs.Laws.Pairs.Walks.{Counted}
use Rattle.repair.proofs.improve.partners.has_active.Given as goal

abbrev pub invariant-loop-i : goal.invariant-loop-i
invariant-loop-i l = Counted l.x l.work l.fn.g l.k l.i l.more

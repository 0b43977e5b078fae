-- `repair::improve::gain::image` meets its contract. Assumes nothing.
use Rattle.repair.proofs.Laws.Gain.Judging.{Seeking}
use Rattle.repair.proofs.improve.gain.image.Given as goal

abbrev pub invariant-loop-i : goal.invariant-loop-i
invariant-loop-i l = Seeking l.work l.p l.k l.v l.i

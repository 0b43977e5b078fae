-- `repair::improve::renumber::number_words` meets its contract. The invariant: the first p words have their numbers. Assumes nothing.
use Rattle.repair.proofs.Laws.Finish.Numbering.{Numbering}
use Rattle.repair.proofs.improve.renumber.number_words.Given as goal

abbrev pub invariant-loop-p : goal.invariant-loop-p
invariant-loop-p l = Numbering l.m l.nv l.used l.initial.area l.p l.count l.area

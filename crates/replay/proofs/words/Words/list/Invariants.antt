-- `replay::words::Words::list`: as many things as were read.
use Rattle.std.proofs.Common.{◌≡◌, vec_len}
use Rattle.replay.proofs.words.Words.list.Given as goal

abbrev pub invariant-loop : goal.invariant-loop
invariant-loop g l = vec_len l.all ≡ l.counter

-- `report::bytes::sum` meets its contract. The invariant: the sum of the first n words. Assumes nothing.
use Rattle.std.proofs.Common.{◌≡◌, ◌%◌, ◌^◌, ◌≤◌}
use Rattle.report.specs.Format.{words_a_block}
use Rattle.report.specs.Bytes.{sum_of}
use Rattle.report.proofs.bytes.sum.Given as goal

abbrev pub invariant-loop-n : goal.invariant-loop-n
invariant-loop-n l = (l.n ≤ words_a_block) × (l.total ≡ sum_of l.s l.i l.n % 2 ^ 32)

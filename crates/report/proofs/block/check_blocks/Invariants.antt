-- `report::block::check_blocks` meets its contract. The invariant: what is left from the block k on is the whole. Assumes nothing.
use Rattle.std.proofs.Common.{◌≡◌, ◌+◌, ◌-◌}
use Rattle.report.specs.Block.{blocks_from}
use Rattle.report.proofs.block.check_blocks.Given as goal

abbrev pub invariant-loop-k : goal.invariant-loop-k
invariant-loop-k l = blocks_from l.s l.counts.vertices l.counts.elements (l.n + 1 - l.k) l.k ≡ blocks_from l.s l.counts.vertices l.counts.elements l.n 1

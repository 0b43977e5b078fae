-- `report::bytes::sum` meets its contract. The invariant: the sum of the first n words. Assumes nothing.
use Rattle.std.proofs.Common.{refl, arith}
use Rattle.report.specs.Bytes.{sum_of}
use Rattle.report.proofs.Laws.Sum.{sum_more}
use Rattle.report.proofs.bytes.sum.Goals as goal

pub loop-n-init : goal.loop-n-init
unfolding sum_of
loop-n-init c = (omega arith, refl)

pub loop-n-preserved : goal.loop-n-preserved
loop-n-preserved c = (omega arith, sum_more c.args.s.now c.args.i c.loop-n.n c.loop-n.total c.word-total.result _ c.loop-n.invariant.1 c.word-total.ensures refl)

-- `report::plot::File::put_blocks` meets its contract. The invariant: k blocks stand there. Assumes nothing.
use Rattle.std.proofs.Common.{refl, ◌∙◌, arith}
use Rattle.report.specs.Bytes.{listed}
use Rattle.report.specs.Write.{file_block}
use Rattle.report.specs.Write.{plot_of}
use Rattle.report.proofs.Laws.Write.Puts.{put-none, put-more}
use Rattle.report.proofs.plot.File.put_blocks.Goals as goal

pub loop-k-init : goal.loop-k-init
unfolding listed
loop-k-init c = (omega arith, refl, refl, put-none _ _ _)

pub loop-k-preserved : goal.loop-k-preserved
loop-k-preserved c = (omega arith, c.put_block-at.auto.out ∙ c.loop-k.invariant.1, omega arith, put-more (file_block (plot_of c.args.self.now.plot.now)) c.loop-k.k c.loop-k.invariant.3 c.put_block-at.ensures.0)

-- `report::write::Cursor::put_zeros` meets its contract. The invariant: i words 0 stand there. Assumes nothing.
use Rattle.std.proofs.Common.{refl, ◌∙◌, arith}
use Rattle.report.proofs.Laws.Write.Puts.{put-none, zeros-more}
use Rattle.report.proofs.write.Cursor.put_zeros.Goals as goal

pub loop-i-init : goal.loop-i-init
loop-i-init c = (omega arith, refl, omega arith, put-none _ _ _)

pub loop-i-preserved : goal.loop-i-preserved
loop-i-preserved c = (omega arith, c.put_word-c.auto.out ∙ c.loop-i.invariant.1, omega arith, zeros-more c.loop-i.i c.loop-i.invariant.3 c.put_word-c.ensures.0)

-- `report::write::Cursor::put_words` meets its contract. The invariant: the first i words stand there. Assumes nothing.
use Rattle.std.proofs.Common.{refl, ◌∙◌, arith}
use Rattle.report.proofs.Laws.Write.Puts.{put-none, words-more}
use Rattle.report.proofs.write.Cursor.put_words.Goals as goal

pub loop-i-init : goal.loop-i-init
loop-i-init c = (omega arith, refl, omega arith, put-none _ _ _)

pub loop-i-preserved : goal.loop-i-preserved
loop-i-preserved c = (omega arith, c.put_word-c.auto.out ∙ c.loop-i.invariant.1, omega arith, words-more c.args.words.now c.loop-i.i _ c.loop-i-test.true c.loop-i.invariant.3 c.put_word-c.ensures.0)

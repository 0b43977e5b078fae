-- `report::text::put_text` meets its contract. The invariant: the first i bytes stand there. Assumes nothing.
use Rattle.std.proofs.Common.{refl, ◌∙◌, arith}
use Rattle.report.proofs.Laws.Text.{sets_more}
use Rattle.report.proofs.text.put_text.Goals as goal

pub loop-i-preserved : goal.loop-i-preserved
loop-i-preserved c = (omega arith, c.put.auto.out ∙ c.loop-i.invariant.1, c.put.ensures ∙ sets_more c.args.out.now c.loop-i.out c.args.text.now c.args.at c.loop-i.i _ c.loop-i-test.true c.loop-i.invariant.2 refl)

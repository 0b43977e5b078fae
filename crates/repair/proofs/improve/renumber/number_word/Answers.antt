-- `repair::improve::renumber::number_word` meets its contract. Assumes nothing.
use Rattle.repair.proofs.Laws.Finish.Numbering.{word-new, word-old}
use Rattle.repair.proofs.improve.renumber.number_word.Goals as goal

pub returns-then-mark-eq0 : goal.returns-then-mark-eq0
returns-then-mark-eq0 c = word-new c.args.marks c.args.used c.args.count c.args.p c.args.area.now c.at-v.ensures c.at-mark.ensures c.if-mark-eq0.true c.put.ensures c.put-then-mark-eq0.ensures c.put-then-mark-eq0-2.ensures

pub returns-else-mark-eq0 : goal.returns-else-mark-eq0
returns-else-mark-eq0 c = word-old c.args.marks c.args.used c.args.count c.args.p c.args.area.now c.at-v.ensures c.at-mark.ensures c.if-mark-eq0.false c.put-else-mark-eq0.ensures

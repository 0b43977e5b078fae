-- `repair::improve::renumber::number_words` meets its contract. The invariant: the first p words have their numbers. Assumes nothing.
use Rattle.repair.proofs.Laws.Finish.Numbering.{numbering_start, numbering-next, numbering-end}
use Rattle.repair.proofs.improve.renumber.number_words.Goals as goal

pub loop-p-init : goal.loop-p-init
loop-p-init c = numbering_start (c.requires)

pub loop-p-preserved : goal.loop-p-preserved
loop-p-preserved c = numbering-next (c.requires) c.loop-p.invariant c.loop-p-test.true c.number_word-count.ensures

pub returns : goal.returns
returns c = numbering-end (c.requires) c.loop-p.invariant c.loop-p-test.false

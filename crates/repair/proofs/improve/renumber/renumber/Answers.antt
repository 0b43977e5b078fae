-- `repair::improve::renumber::renumber` meets its contract: the marks are cleared, then the words numbered. Assumes nothing.
use Rattle.repair.proofs.Laws.Finish.Elements.{clear-unmet, renumber-is}
use Rattle.repair.proofs.improve.renumber.renumber.Goals as goal

pub number_words-requires : goal.number_words-requires
number_words-requires c = clear-unmet (c.requires) c.zero_all.new.s c.zero_all.ensures

pub returns : goal.returns
returns c = renumber-is (c.requires) c.zero_all.new.s c.zero_all.ensures c.number_words.result c.number_words.new.area c.number_words.ensures

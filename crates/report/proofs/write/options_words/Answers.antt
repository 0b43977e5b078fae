-- `report::write::options_words` meets its contract. Assumes nothing.
use Rattle.report.specs.Write.{bounds_words, options_words}
use Rattle.report.proofs.write.options_words.Goals as goal

pub returns : goal.returns
unfolding options_words bounds_words
returns c = cc

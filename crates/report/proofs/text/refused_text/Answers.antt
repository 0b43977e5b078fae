-- `report::text::refused_text` meets its contract, text by text. Assumes nothing.
use Rattle.std.proofs.Common.{arith}
use Rattle.report.specs.Table.{decimal, refused_text, refused_word, line_end}
use Rattle.report.proofs.Laws.Lines.{three}
use Rattle.report.proofs.text.refused_text.Goals as goal

pub returns : goal.returns
unfolding refused_text refused_word line_end
returns c = (three refused_word (decimal c.args.n) line_end c.put_text-a.ensures.0 c.put_decimal-b.ensures.0 c.put_text.ensures.0, omega arith)

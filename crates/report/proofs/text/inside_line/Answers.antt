-- `report::text::inside_line` meets its contract, text by text. Assumes nothing.
use Rattle.std.proofs.Common.{arith}
use Rattle.report.specs.Table.{decimal, inside_line, inside_word, space, line_end}
use Rattle.report.proofs.Laws.Lines.{five}
use Rattle.report.proofs.text.inside_line.Goals as goal

pub returns : goal.returns
unfolding inside_line inside_word space line_end
returns c = (five inside_word (decimal c.args.field) space (decimal c.args.count) line_end c.put_text-a.ensures.0 c.put_decimal-b.ensures.0 c.put_text-c.ensures.0 c.put_decimal-d.ensures.0 c.put_text.ensures.0, omega arith)

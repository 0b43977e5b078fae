-- `report::text::sizes_line` meets its contract, text by text. Assumes nothing.
use Rattle.std.proofs.Common.{arith}
use Rattle.report.specs.Table.{decimal, sizes_line, vertices_word, elements_word, line_end}
use Rattle.report.proofs.Laws.Lines.{five}
use Rattle.report.proofs.text.sizes_line.Goals as goal

pub returns : goal.returns
unfolding sizes_line vertices_word elements_word line_end
returns c = (five vertices_word (decimal c.args.vertices) elements_word (decimal c.args.elements) line_end c.put_text-a.ensures.0 c.put_decimal-b.ensures.0 c.put_text-c.ensures.0 c.put_decimal-d.ensures.0 c.put_text.ensures.0, omega arith)

-- `report::text::element_line` meets its contract, text by text. Assumes nothing.
use Rattle.std.proofs.Common.{◌++◌, arith}
use Rattle.report.specs.Table.{decimal, element_line, element_word, space, line_end}
use Rattle.report.proofs.Laws.Lines.{six}
use Rattle.report.proofs.text.element_line.Goals as goal

pub returns : goal.returns
unfolding element_line element_word line_end
returns c = (six element_word (decimal c.args.t.a ++ space) (decimal c.args.t.b ++ space) (decimal c.args.t.c ++ space) (decimal c.args.t.d) line_end c.put_text-a.ensures.0 c.put_corner-b.ensures.0 c.put_corner-c.ensures.0 c.put_corner-d.ensures.0 c.put_decimal-e.ensures.0 c.put_text.ensures.0, omega (arith, c.put_text-a.ensures.1, c.put_corner-b.ensures.1, c.put_corner-c.ensures.1, c.put_corner-d.ensures.1, c.put_decimal-e.ensures.1, c.put_text.ensures.1, c.requires))

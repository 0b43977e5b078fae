-- `report::text::counts_line` meets its contract, text by text. Assumes nothing.
use Rattle.std.proofs.Common.{arith}
use Rattle.report.specs.Table.{decimal, counts_line, collapse_word, move_word, reconnect_word, line_end}
use Rattle.report.proofs.Laws.Lines.{seven}
use Rattle.report.proofs.text.counts_line.Goals as goal

pub returns : goal.returns
unfolding counts_line collapse_word move_word reconnect_word line_end
returns c = (seven collapse_word (decimal c.args.n.collapsed) move_word (decimal c.args.n.moved) reconnect_word (decimal c.args.n.reconnected) line_end c.put_text-a.ensures.0 c.put_decimal-b.ensures.0 c.put_text-c.ensures.0 c.put_decimal-d.ensures.0 c.put_text-e.ensures.0 c.put_decimal-f.ensures.0 c.put_text.ensures.0, omega (arith, c.put_text-a.ensures.1, c.put_decimal-b.ensures.1, c.put_text-c.ensures.1, c.put_decimal-d.ensures.1, c.put_text-e.ensures.1, c.put_decimal-f.ensures.1, c.requires, c.put_text.ensures.1))

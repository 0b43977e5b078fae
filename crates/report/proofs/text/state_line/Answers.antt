-- `report::text::state_line` meets its contract, text by text. Assumes nothing.
use lib.IntN.{sub_ℕ}
use Rattle.std.proofs.Common.{arith}
use Rattle.report.specs.Table.{decimal, signed, state_line, low_word, euler_word, line_end}
use Rattle.report.proofs.Laws.Lines.{five}
use Rattle.report.proofs.text.state_line.Goals as goal

pub returns : goal.returns
unfolding state_line low_word euler_word line_end
returns c = (five low_word (decimal c.args.low) euler_word (signed (sub_ℕ c.args.euler.plus c.args.euler.minus)) line_end c.put_text-a.ensures.0 c.put_decimal-b.ensures.0 c.put_text-c.ensures.0 c.put_signed-d.ensures.0 c.put_text.ensures.0, omega arith)

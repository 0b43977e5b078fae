-- `report::text::put_signed` meets its contract. Assumes nothing.
use Rattle.std.proofs.Common.{arith}
use Rattle.report.proofs.Laws.Lines.{signed-plus, signed-minus}
use Rattle.report.proofs.text.put_signed.Goals as goal

pub returns-then-n : goal.returns-then-n
returns-then-n c = (signed-plus c.args.n.plus c.args.n.minus c.if-n.true c.put_decimal.ensures.0, omega arith)

pub returns : goal.returns
returns c = (signed-minus c.args.at c.args.n.plus c.args.n.minus c.if-n.false c.put.ensures c.put_decimal-2.ensures.0, omega arith)

-- `report::text::put_corner` meets its contract. Assumes nothing.
use Rattle.std.proofs.Common.{arith}
use Rattle.report.specs.Table.{decimal, space}
use Rattle.report.proofs.Laws.Text.{written_then}
use Rattle.report.proofs.text.put_corner.Goals as goal

pub returns : goal.returns
unfolding space
returns c = (written_then {a = decimal c.args.v} {b = space} c.put_decimal-a.ensures.0 c.put_text.ensures.0, omega arith)

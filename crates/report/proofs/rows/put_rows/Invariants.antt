-- `report::rows::put_rows` meets its contract. The invariant: the first rows, and behind them what stood there. Assumes nothing.
use Rattle.std.proofs.Common.{◌≡◌, ◌*◌, ◌++◌, drop}
use Rattle.report.specs.Bytes.{listed}
use Rattle.report.proofs.rows.put_rows.Given as goal

abbrev pub invariant-loop-i : goal.invariant-loop-i
invariant-loop-i g l = l.out ≡ listed (g.R.Rows.told l.rows) l.i ++ drop (g.row.W * l.i) l.initial.out

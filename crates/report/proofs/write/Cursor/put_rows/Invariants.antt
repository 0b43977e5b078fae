-- `report::write::Cursor::put_rows` meets its contract. The invariant: i rows stand there. Assumes nothing.
use Rattle.std.proofs.Common.{◌≡◌, ◌+◌, ◌*◌, ◌≤◌, length}
use Rattle.report.specs.Write.{records_from}
use Rattle.report.specs.inside.Put.{Put}
use Rattle.report.proofs.write.Cursor.put_rows.Given as goal

abbrev pub invariant-loop-i : goal.invariant-loop-i
invariant-loop-i g l = (l.i ≤ l.n) × (length l.out ≡ length l.initial.out) × (l.c.at ≡ l.initial.c.at + 4 * (g.row.W * l.i)) × Put l.initial.out l.out l.initial.c.at l.initial.c.sum l.c.at l.c.sum (records_from (g.R.Rows.told l.rows) l.first l.i)

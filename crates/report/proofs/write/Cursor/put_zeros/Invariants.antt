-- `report::write::Cursor::put_zeros` meets its contract. The invariant: i words 0 stand there. Assumes nothing.
use Rattle.std.proofs.Common.{◌≡◌, ◌+◌, ◌*◌, ◌≤◌, length}
use Rattle.mesh.specs.Words.{zero_words}
use Rattle.report.specs.inside.Put.{Put}
use Rattle.report.proofs.write.Cursor.put_zeros.Given as goal

abbrev pub invariant-loop-i : goal.invariant-loop-i
invariant-loop-i l = (l.i ≤ l.n) × (length l.out ≡ length l.initial.out) × (l.c.at ≡ l.initial.c.at + 4 * l.i) × Put l.initial.out l.out l.initial.c.at l.initial.c.sum l.c.at l.c.sum (zero_words l.i)

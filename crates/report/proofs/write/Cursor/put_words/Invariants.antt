-- `report::write::Cursor::put_words` meets its contract. The invariant: the first i words stand there. Assumes nothing.
use Rattle.std.proofs.Common.{◌≡◌, ◌+◌, ◌*◌, ◌≤◌, length, take}
use Rattle.report.specs.inside.Put.{Put}
use Rattle.report.proofs.write.Cursor.put_words.Given as goal

abbrev pub invariant-loop-i : goal.invariant-loop-i
invariant-loop-i l = (l.i ≤ length l.words) × (length l.out ≡ length l.initial.out) × (l.c.at ≡ l.initial.c.at + 4 * l.i) × Put l.initial.out l.out l.initial.c.at l.initial.c.sum l.c.at l.c.sum (take l.i l.words)

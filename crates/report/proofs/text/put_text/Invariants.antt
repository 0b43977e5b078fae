-- `report::text::put_text` meets its contract. The invariant: the first i bytes stand there. Assumes nothing.
use Rattle.std.proofs.Common.{◌≡◌, ◌≤◌, length, take}
use lib.Seq.{sets}
use Rattle.report.proofs.text.put_text.Given as goal

abbrev pub invariant-loop-i : goal.invariant-loop-i
invariant-loop-i l = (l.i ≤ length l.text) × (length l.out ≡ length l.initial.out) × (l.out ≡ sets l.initial.out l.at (take l.i l.text))

-- `report::table::element_lines` meets its contract. The invariant: the lines of the first i elements stand there. Assumes nothing.
use Rattle.std.proofs.Common.{◌≡◌, ◌+◌, ◌*◌, ◌≤◌, length}
use Rattle.mesh.specs.Element.{tets}
use Rattle.report.specs.Table.{element_lines}
use Rattle.report.specs.inside.Written.{Written}
use Rattle.report.proofs.table.element_lines.Given as goal

abbrev pub invariant-loop-i : goal.invariant-loop-i
invariant-loop-i l = (l.i ≤ l.mesh.count) × (l.p ≤ l.at + 580 * l.i) × (length l.out ≡ length l.initial.out) × Written l.initial.out l.out l.at l.p (element_lines (tets l.i l.mesh.elements.now))

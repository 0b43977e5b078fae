-- `report::table::inside_lines` meets its contract. The invariant: the lines of the first j fields stand there. Assumes nothing.
use Rattle.std.proofs.Common.{◌≡◌, ◌+◌, ◌*◌, ◌≤◌, map, length, take}
use Rattle.mesh.specs.Words.{points_in}
use Rattle.report.specs.inside.Meshes.{elements_in}
use Rattle.report.specs.Table.{inside_count, inside_lines}
use Rattle.report.specs.inside.Written.{Written}
use Rattle.report.proofs.table.inside_lines.Given as goal

abbrev pub invariant-loop-j : goal.invariant-loop-j
invariant-loop-j l = (l.j ≤ length l.fields) × (l.p ≤ l.at + 340 * l.j) × (length l.out ≡ length l.initial.out) × Written l.initial.out l.out l.at l.p (inside_lines 0 (map (inside_count (points_in l.mesh.points) (elements_in l.mesh)) (take l.j l.fields)))

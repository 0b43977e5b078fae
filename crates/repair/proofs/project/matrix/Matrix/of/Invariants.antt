-- `matrix::Matrix::of` meets its contract. The invariant: the rows before i are those of the matrix. Assumes nothing.
use Rattle.std.proofs.Common.{◌≡◌, ◌+◌, map, length, take}
use Rattle.repair.specs.inside.project.Solve.{row_of, rows_of, entries, Shaped}
use Rattle.repair.proofs.project.matrix.Matrix.of.Given as goal

abbrev pub invariant-loop-i : goal.invariant-loop-i
invariant-loop-i l = Shaped l.m × (map (take (length l.rows.list.now + 1)) (take l.i l.m) ≡ map (λ r. entries (rows_of l.rows.list.now) (row_of r)) (take l.i l.rows.list.now))

-- `matrix::Matrix::displacement` meets its contract. The invariant: what is left from row i on is the whole. Assumes nothing.
use Rattle.std.proofs.Common.{◌≡◌, length}
use Rattle.repair.specs.inside.project.Solve.{rows_of, window, displacement}
use Rattle.repair.proofs.Laws.Project.Arrays.{summed_point}
use Rattle.repair.proofs.project.matrix.Matrix.displacement.Given as goal

abbrev pub invariant-loop-i : goal.invariant-loop-i
invariant-loop-i l = summed_point (length l.rows.list.now) l.self.rows l.rows.list.now l.s l.i ≡ displacement (rows_of l.rows.list.now) (window (length l.rows.list.now) l.self.rows)

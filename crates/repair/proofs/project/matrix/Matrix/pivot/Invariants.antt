-- `matrix::Matrix::pivot` meets its contract. The invariant: the pivot of the rows from i on and the best so far is that of all. Assumes nothing.
use mathlib.Core.Path.{◌≡◌}
use Prim.Native.Nat.{◌+◌, ◌-◌, ◌≤◌, ◌<◌}
use Rattle.repair.specs.Project.{pivot}
use Rattle.repair.specs.inside.project.Solve.{window}
use Rattle.repair.proofs.project.matrix.Matrix.pivot.Given as goal

abbrev pub invariant-loop-i : goal.invariant-loop-i
invariant-loop-i l = (l.best < l.fn.self.size) × (l.i ≤ l.fn.self.size) × (pivot (window l.fn.self.size l.fn.self.rows) l.fn.k l.best l.i (l.fn.self.size - l.i) ≡ pivot (window l.fn.self.size l.fn.self.rows) l.fn.k l.fn.k (l.fn.k + 1) (l.fn.self.size - (l.fn.k + 1)))

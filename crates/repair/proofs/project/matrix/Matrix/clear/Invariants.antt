-- `matrix::Matrix::clear` meets its contract. The invariant: the rows before i are cleared. Assumes nothing.
use mathlib.Core.Path.{◌≡◌}
use Prim.Native.Nat.{◌+◌, ◌≤◌}
use lib.ListN.{take}
use Rattle.repair.specs.inside.project.Solve.{window}
use Rattle.repair.proofs.Laws.Project.Elimination.{cleared_from}
use Rattle.repair.specs.Project.{cleared}
use Rattle.repair.proofs.project.matrix.Matrix.clear.Given as goal

abbrev pub invariant-loop-i : goal.invariant-loop-i
invariant-loop-i l = let n = l.initial.self.size in
    (l.i ≤ n) × (l.self.size ≡ n) × (cleared_from l.fn.k (take (n + 1) l.pivot) l.i (window n l.self.rows) ≡ cleared l.fn.k 0 (take (n + 1) l.pivot) (window n l.initial.self.rows))

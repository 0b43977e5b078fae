-- `matrix::Matrix::solved` meets its contract. The invariant: the solution from column k on is the whole. Assumes nothing.
use mathlib.Core.Path.{◌≡◌}
use Prim.Native.Nat.{◌-◌, ◌≤◌}
use Rattle.repair.specs.Project.{solved}
use Rattle.repair.specs.inside.project.Solve.{window}
use Rattle.repair.proofs.project.matrix.Matrix.solved.Given as goal

abbrev pub invariant-loop-k : goal.invariant-loop-k
invariant-loop-k l = let n = l.fn.self.size in (l.k ≤ n) × (l.m.size ≡ n) × (solved l.k (n - l.k) (window n l.m.rows) ≡ solved 0 n (window n l.fn.self.rows))

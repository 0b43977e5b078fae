-- `matrix::Matrix::divided` meets its contract. The invariant: what is left from column j on is the whole. Assumes nothing.
use mathlib.Core.Path.{◌≡◌}
use Prim.Native.Nat.{◌+◌, ◌≤◌}
use lib.ListN.{length, take}
use Rattle.repair.specs.Project.{divide_from}
use Rattle.repair.proofs.project.matrix.Matrix.divided.Given as goal

abbrev pub invariant-loop-j : goal.invariant-loop-j
invariant-loop-j l = let n = l.fn.self.size in (l.j ≤ n + 1) × (length l.row ≡ 9) × (divide_from l.j l.d (take (n + 1) l.row) ≡ divide_from l.fn.k l.d (take (n + 1) l.initial.row))

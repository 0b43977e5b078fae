-- `rows::Rows::free` meets its contract. The invariant: the rows before i are freed. Assumes nothing.
use Rattle.std.proofs.Common.{◌≡◌, map, length, take}
use Rattle.repair.specs.Project.{freed}
use Rattle.repair.specs.inside.project.Solve.{locks, row_of, rows_of}
use Rattle.repair.proofs.project.rows.Rows.free.Given as goal

abbrev pub invariant-loop-i : goal.invariant-loop-i
invariant-loop-i l = (length l.out ≡ 8) × (rows_of (take l.i l.out) ≡ map (λ r. freed (locks l.l) (row_of r)) (take l.i l.self.list.now))

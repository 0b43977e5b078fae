-- `matrix::matrix_row` meets its contract. The invariant: the columns before j are products. Assumes nothing.
use Rattle.std.proofs.Common.{◌≡◌, map, length, take}
use Rattle.geometry.specs.Point.{dot}
use Rattle.repair.proofs.project.matrix.matrix_row.Given as goal

abbrev pub invariant-loop-j : goal.invariant-loop-j
invariant-loop-j l = (length l.out ≡ 9) × (map (λ x. x) (take l.j l.out) ≡ map (λ r. dot l.a.gradient r.gradient) (take l.j l.rows.list.now))

-- `matrix::Matrix::of` meets its contract. The invariant: the rows before i are those of the matrix. Assumes nothing.
use Rattle.std.proofs.Common.{◌≡◌, ◌∙◌, map, length, refl, sym, ap, arith}
use mathlib.Core.List.{map-map}
use lib.Seq.{take-length}
use Rattle.repair.specs.inside.project.Solve.{row_of, rows_of, entries}
use Rattle.repair.proofs.project.matrix.Matrix.of.Goals as goal

pub returns : goal.returns
returns c =
    let rows = c.args.rows.list.now in
    let e : c.loop-i.i ≡ length rows = omega arith in
    (refl, (rw e at c.loop-i.invariant.1) ∙ ap (map (λ r. entries (rows_of rows) (row_of r))) (take-length rows) ∙ sym (map-map (entries (rows_of rows)) row_of rows))

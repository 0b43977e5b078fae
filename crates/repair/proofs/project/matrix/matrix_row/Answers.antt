-- `matrix::matrix_row` meets its contract. The invariant: the columns before j are products. Assumes nothing.
use Rattle.std.proofs.Common.{◌≡◌, ◌∙◌, map, length, take, sym, ap, arith}
use mathlib.Core.List.{map-map, map-id}
use lib.Seq.{take-length}
use Rattle.geometry.specs.Point.{dot}
use Rattle.repair.specs.inside.project.Solve.{row_of}
use Rattle.repair.proofs.Laws.Project.Lists.{put_last}
use Rattle.repair.proofs.project.matrix.matrix_row.Goals as goal

pub returns : goal.returns
returns c =
    let rows = c.args.rows.list.now in
    let e : c.loop-j.j ≡ length rows = omega arith in
    put_last c.loop-j.out (length rows) c.args.a.value (omega arith)
    (sym (map-id (take (length rows) c.loop-j.out)) ∙ (rw e at c.loop-j.invariant.1) ∙ ap (map (λ r. dot c.args.a.gradient r.gradient)) (take-length rows) ∙ sym (map-map (λ s. dot c.args.a.gradient s.gradient) row_of rows))

-- `rows::Rows::free` meets its contract. The invariant: the rows before i are freed. Assumes nothing.
use Rattle.std.proofs.Common.{◌≡◌, ◌∙◌, map, length, sym, ap, arith}
use mathlib.Core.List.{map-map}
use lib.Seq.{take-length}
use Rattle.repair.specs.Project.{freed}
use Rattle.repair.specs.inside.project.Solve.{locks, row_of}
use Rattle.repair.proofs.project.rows.Rows.free.Goals as goal

pub returns : goal.returns
returns c =
    let e : c.loop-i.i ≡ length c.args.self.list.now = omega arith in
    (rw e at c.loop-i.invariant.1) ∙ ap (map (λ r. freed (locks c.args.l) (row_of r))) (take-length c.args.self.list.now) ∙ sym (map-map (freed (locks c.args.l)) row_of c.args.self.list.now)

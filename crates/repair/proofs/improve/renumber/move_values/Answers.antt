-- `repair::improve::renumber::move_values` meets its contract. Assumes nothing.
use mathlib.Core.Path.{◌∙◌}
use native.Mathlib.Omega.{arith}
use Prim.Native.Nat.{◌*◌}
use lib.ListN.{length}
use Rattle.repair.specs.inside.improve.Renumber.{values_of}
use Rattle.repair.proofs.Laws.Finish.Moved.{copied-over}
use Rattle.repair.proofs.improve.renumber.move_values.Goals as goal

pub returns : goal.returns
returns g c =
    let a = c.args in
    let n = g.row.W * length a.vertices.now in
    c.copy_part.ensures
    ∙ copied-over c.list_values.new.list a.values.now (values_of g.T.Zero.zero a.values.now g.row.W a.vertices.now) 0 n (omega (arith, c.requires.1, c.list_values.auto.list)) c.requires.2 c.list_values.ensures

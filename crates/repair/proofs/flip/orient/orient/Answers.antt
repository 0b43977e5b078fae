-- `repair::flip::orient::orient` meets its contract. Assumes nothing.
use native.Mathlib.Omega.{arith}
use Rattle.std.proofs.lemmas.List.{get_or_default}
use Rattle.std.proofs.lemmas.List.Edits.{map_over_more}
use Rattle.mesh.specs.Words.{points_in}
use Rattle.mesh.specs.Measure.{measure}
use Rattle.repair.specs.Flip.{oriented}
use Rattle.repair.proofs.flip.orient.orient.Goals as goal

pub loop-t-preserved : goal.loop-t-preserved
loop-t-preserved c =
    let f = oriented (measure (points_in c.args.points)) in
    rw (c.orient_one.ensures) (map_over_more f c.args.ts.now c.loop-t.ts c.loop-t.t-index _ c.loop-t-test.true c.loop-t.invariant (get_or_default c.loop-t.ts c.loop-t.t-index _ _ (omega arith)))

-- `repair::flip::orient::tally` meets its contract. Assumes nothing.
use Rattle.mesh.specs.Words.{points_in}
use Rattle.mesh.specs.Measure.{measure}
use Rattle.repair.proofs.Laws.Flip.Accepted.{counting-turn, counting-end}
use Rattle.repair.proofs.flip.orient.tally.Goals as goal

pub loop-t-preserved : goal.loop-t-preserved
loop-t-preserved c = counting-turn (measure (points_in c.args.points)) c.args.ts.now c.loop-t.invariant _ c.loop-t-test.true _ c.score.ensures _ c.counted-r.ensures

pub returns : goal.returns
returns c = counting-end (measure (points_in c.args.points)) c.args.ts.now c.loop-t.invariant c.loop-t-test.false

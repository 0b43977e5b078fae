-- `candidates::mean_of` meets its contract. The invariant: the sums so far and the points left give the sums of all. Assumes nothing.
use Rattle.std.proofs.Common.{refl}
use Rattle.mesh.specs.Words.{point_at, points_in}
use Rattle.repair.proofs.Laws.Candidate.Mean.{sum-turn, sum-end}
use Rattle.repair.proofs.smooth.candidates.mean_of.Goals as goal

pub loop-v-init : goal.loop-v-init
unfolding lib.Ieee.of_bits lib.Ieee.neg
loop-v-init c = refl

pub loop-v-preserved : goal.loop-v-preserved
loop-v-preserved c =
    let l = c.loop-v in
    sum-turn (point_at (points_in c.args.parameters)) c.args.near.now l.v-index l.s c.add-s.result c.at.result 0 c.loop-v-test.true c.at.ensures c.add-s.ensures l.invariant

pub returns : goal.returns
returns c =
    let l = c.loop-v in
    sum-end (point_at (points_in c.args.parameters)) c.args.near.now l.v-index l.s c.divide.result c.loop-v-test.false c.divide.ensures l.invariant

-- `repair::flip::orient::is_accepted` meets its contract, test by test. Assumes nothing.
use mathlib.Core.Path.{◌∙◌}
use Rattle.mesh.specs.Words.{points_in}
use Rattle.mesh.specs.Measure.{measure}
use Rattle.repair.proofs.Laws.Flip.Accepted.{accepted-low, accepted-more, accepted-volume}
use Rattle.repair.proofs.flip.orient.is_accepted.Goals as goal
use Rattle.repair.proofs.flip.orient.is_accepted.Goals.{then-m-n, else-m-n}

pub returns-then-n-m : goal.returns-then-n-m
unfolding lib.Ieee.of_bits
returns-then-n-m c =
    accepted-volume (measure (points_in c.args.points)) c.args.old.now c.args.new.now _ c.all_above.ensures c.if-not-all_above.false _ _ c.tally-m.ensures c.tally-n.ensures c.if-n-m.true.0 c.if-n-m.true.1 _ c.same_volume.ensures

pub returns-else-n-m : goal.returns-else-n-m
unfolding lib.Ieee.of_bits
returns-else-n-m c =
    let μ = measure (points_in c.args.points) in
    elim c.if-m-n.branch [
      | then-m-n w ↦ accepted-more μ c.args.old.now c.args.new.now _ c.all_above.ensures c.if-not-all_above.false _ _ c.tally-m.ensures c.tally-n.ensures w.if-m-n.true _ w.t-12-is c.if-n-m.either
      | else-m-n w ↦ w.t-12-is ∙ w.if-m-n.false ∙ accepted-low μ c.args.old.now c.args.new.now _ c.all_above.ensures c.if-not-all_above.false _ _ c.tally-m.ensures c.tally-n.ensures w.if-m-n.false
    ]

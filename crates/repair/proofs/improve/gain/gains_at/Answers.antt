-- `repair::improve::gain::gains_at` meets its contract. Assumes nothing.
use lib.ListN.{drop}
use Rattle.mesh.specs.Words.{points_in}
use Rattle.mesh.specs.Element.{tets}
use Rattle.mesh.specs.Measure.{measure}
use Rattle.repair.specs.Improve.{collapsed}
use Rattle.repair.specs.inside.Layout.{pairs_in}
use Rattle.repair.proofs.Laws.Gain.Judging.{gains-no, gains-fewer, gains-higher}
use Rattle.repair.proofs.improve.gain.gains_at.Goals as goal

pub returns-in_default : goal.returns-in_default
unfolding lib.Ieee.of_bits
returns-in_default c = gains-no (measure (points_in c.args.given.now.points)) (tets c.args.n (drop c.args.p c.args.work.now)) (collapsed (pairs_in c.args.given.now.index c.args.k c.args.work.now) (tets c.args.n (drop c.args.p c.args.work.now))) c.of_elements-old.result c.smaller-limit.result c.of_elements-old.ensures c.smaller-limit.ensures c.in_default.ensures

pub returns-then-new-old : goal.returns-then-new-old
unfolding lib.Ieee.of_bits
returns-then-new-old c = gains-fewer (measure (points_in c.args.given.now.points)) (tets c.args.n (drop c.args.p c.args.work.now)) (collapsed (pairs_in c.args.given.now.index c.args.k c.args.work.now) (tets c.args.n (drop c.args.p c.args.work.now))) c.of_elements-old.result c.smaller-limit.result c.of_elements-old.ensures c.smaller-limit.ensures _ c.in-Some.ensures c.if-new-old.true

pub returns-else-new-old : goal.returns-else-new-old
unfolding lib.Ieee.of_bits
returns-else-new-old c = gains-higher (measure (points_in c.args.given.now.points)) (tets c.args.n (drop c.args.p c.args.work.now)) (collapsed (pairs_in c.args.given.now.index c.args.k c.args.work.now) (tets c.args.n (drop c.args.p c.args.work.now))) c.of_elements-old.result c.smaller-limit.result c.of_elements-old.ensures c.smaller-limit.ensures _ c.in-Some.ensures c.if-new-old.false

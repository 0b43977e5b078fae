-- `repair::improve::gain::tally_images` meets its contract. Assumes nothing.
use mathlib.Core.Path.{sym, ◌∙◌}
use Rattle.mesh.specs.Words.{points_in}
use Rattle.mesh.specs.Measure.{measure}
use Rattle.repair.specs.inside.Layout.{pairs_in}
use Rattle.repair.proofs.Laws.Gain.Judging.{judge-fail, judge-turn, judge-end}
use Rattle.repair.proofs.improve.gain.tally_images.Goals as goal

pub returns-in_err-r : goal.returns-in_err-r
returns-in_err-r c = c.from_residual.ensures ∙ judge-fail (measure (points_in c.args.given.now.points)) c.args.limit (pairs_in c.args.given.now.index c.args.k c.args.work.now) c.args.work.now c.args.p c.args.n c.loop-i.invariant c.loop-i-test.true _ _ c.element_from-t.ensures c.image_of-u.ensures (sym c.in_err-r.was ∙ c.judged.ensures)

pub loop-i-preserved : goal.loop-i-preserved
loop-i-preserved c = judge-turn (measure (points_in c.args.given.now.points)) c.args.limit (pairs_in c.args.given.now.index c.args.k c.args.work.now) c.args.work.now c.args.p c.args.n c.loop-i.invariant c.loop-i-test.true _ _ c.element_from-t.ensures c.image_of-u.ensures _ (sym c.in_ok-r.was ∙ c.judged.ensures)

pub returns : goal.returns
returns c = judge-end (measure (points_in c.args.given.now.points)) c.args.limit (pairs_in c.args.given.now.index c.args.k c.args.work.now) c.args.work.now c.args.p c.args.n c.loop-i.invariant c.loop-i-test.false

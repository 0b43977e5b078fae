-- `repair::quality::Tally::of_elements` meets its contract. Assumes nothing.
use Rattle.mesh.specs.Words.{points_in}
use Rattle.mesh.specs.Measure.{measure}
use Rattle.repair.proofs.Laws.Gain.Tallies.{tally-turn, tally-end}
use mathlib.Core.Path.{ap, ◌∙◌}
use Rattle.repair.specs.inside.Quality.{counted}
use Rattle.repair.proofs.quality.Tally.of_elements.Goals as goal

pub loop-i-preserved : goal.loop-i-preserved
loop-i-preserved c = tally-turn (measure (points_in c.args.points)) c.loop-i.invariant c.loop-i-test.true _ c.element_from-t.ensures _ (c.counted-r.ensures ∙ ap (counted c.loop-i.r) c.score.ensures)

pub returns : goal.returns
returns c = tally-end (measure (points_in c.args.points)) c.loop-i.invariant c.loop-i-test.false

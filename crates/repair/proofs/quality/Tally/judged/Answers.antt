-- `repair::quality::Tally::judged` meets its contract, test by test. Assumes nothing.
use mathlib.Core.Path.{sym, ap, ◌∙◌}
use Rattle.std.specs.Prelude.{Some}
use Rattle.mesh.specs.Words.{points_in}
use Rattle.repair.proofs.Laws.Gain.Judging.{judged-over, judged-flat, judged-worse, judged-well}
use Rattle.repair.proofs.quality.Tally.judged.Goals as goal

pub returns-then-not-four_different : goal.returns-then-not-four_different
returns-then-not-four_different c = let a = c.args in judged-over (points_in a.points) a.limit a.self a.t (sym c.four_different.ensures ∙ c.if-not-four_different.true)

pub returns-in_err-score : goal.returns-in_err-score
returns-in_err-score c = let a = c.args in c.from_residual.ensures ∙ judged-flat (points_in a.points) a.limit a.self a.t (sym c.four_different.ensures ∙ c.if-not-four_different.false) (sym c.measured.ensures ∙ c.in_err-score.was)

pub returns-then-score-limit : goal.returns-then-score-limit
unfolding lib.Ieee.of_bits
returns-then-score-limit c = let a = c.args in judged-worse (points_in a.points) a.limit a.self a.t (sym c.four_different.ensures ∙ c.if-not-four_different.false) _ (sym c.measured.ensures ∙ c.in_ok-score.was) c.if-score-limit.true

pub returns : goal.returns
unfolding lib.Ieee.of_bits
returns c = let a = c.args in ap Some c.counted.ensures ∙ judged-well (points_in a.points) a.limit a.self a.t (sym c.four_different.ensures ∙ c.if-not-four_different.false) _ (sym c.measured.ensures ∙ c.in_ok-score.was) c.if-score-limit.false

-- `repair::improve::gain::image` meets its contract. Assumes nothing.
use mathlib.Core.Path.{sym, ◌∙◌}
use Rattle.repair.proofs.Laws.Gain.Judging.{seek_found, seek-turn, seek-end}
use Rattle.repair.proofs.improve.gain.image.Goals as goal

pub returns-then-at-v : goal.returns-then-at-v
returns-then-at-v c = rw c.pairs_at-p.ensures at (c.at-then-at-v.ensures ∙ seek_found c.loop-i.invariant c.loop-i-test.true (sym c.at.ensures ∙ c.if-at-v.true))

pub loop-i-preserved : goal.loop-i-preserved
loop-i-preserved c = seek-turn c.loop-i.invariant c.loop-i-test.true (λ e. c.if-at-v.false (c.at.ensures ∙ e))

pub returns : goal.returns
returns c = rw c.pairs_at-p.ensures at (seek-end c.loop-i.invariant c.loop-i-test.false)

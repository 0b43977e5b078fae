-- `repair::quality::Tally::counted` meets its contract. Assumes nothing.
use mathlib.Core.Path.{refl, sym, ◌∙◌}
use Rattle.repair.specs.inside.Quality.{counted}
use Rattle.repair.proofs.quality.Tally.counted.Goals as goal

pub returns-then-is_bad : goal.returns-then-is_bad
unfolding counted
returns-then-is_bad c = rw (sym c.is_bad.ensures ∙ c.if-is_bad.true, c.smaller.ensures) refl

pub returns-else-is_bad : goal.returns-else-is_bad
unfolding counted
returns-else-is_bad c = rw (sym c.is_bad.ensures ∙ c.if-is_bad.false, c.smaller.ensures) refl

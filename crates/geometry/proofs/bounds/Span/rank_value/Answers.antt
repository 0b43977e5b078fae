-- `Span::rank_value` meets its contract: what `nearest_away` gives. Assumes nothing.
use lib.Ieee.{of_bits}
use Rattle.geometry.specs.Rank.{rank_value}
use Rattle.geometry.proofs.bounds.Span.rank_value.Goals as goal

pub returns : goal.returns
unfolding of_bits rank_value
returns c = c.nearest_away.ensures

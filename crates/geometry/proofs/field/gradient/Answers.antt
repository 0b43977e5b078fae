-- `field::gradient` meets its contract: a ball's gradient is twice what `sub` gives. Assumes nothing.
use lib.Ieee.{of_bits}
use Rattle.geometry.proofs.field.gradient.Goals as goal

pub returns-in-Ball : goal.returns-in-Ball
unfolding of_bits
returns-in-Ball c = rw (c.in-Ball.is, c.sub-e.ensures)

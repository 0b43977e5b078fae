-- `bounds::spacing` meets its contract: the three folds, one after the other. Assumes nothing.
use Rattle.std.proofs.Common.{◌≡◌}
use lib.Ieee.{inf, of_bits, div}
use Rattle.geometry.specs.Bounds.{spacing}
use Rattle.geometry.proofs.bounds.spacing.Goals as goal

pub returns : goal.returns
unfolding spacing of_bits div
returns c =
    rw (c.smaller-3.ensures, c.smaller-2.ensures, c.smaller.ensures, c.cell_size-x.ensures, c.cell_size-y.ensures, c.cell_size-z.ensures, c.x.ensures, c.y.ensures, c.z.ensures)

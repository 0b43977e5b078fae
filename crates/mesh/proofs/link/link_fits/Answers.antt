-- `mesh::link::link_fits` meets its contract. Assumes nothing.
use Rattle.std.proofs.Common.{rules}
use Rattle.mesh.specs.Feature.{link_fits}
use Rattle.mesh.proofs.link.link_fits.Goals as goal

pub returns-then-n-area : goal.returns-then-n-area
unfolding link_fits
returns-then-n-area c = search rules

pub returns-else-n-area : goal.returns-else-n-area
unfolding link_fits
returns-else-n-area c = search rules

-- `mesh::euler::EdgeRowsRows2::row` meets its contract. Assumes nothing.
use Rattle.std.proofs.Common.{refl}
use Rattle.mesh.specs.inside.Euler.{edge_row_at}
use Rattle.mesh.proofs.euler.EdgeRowsRows2.row.Goals as goal

pub returns : goal.returns
unfolding edge_row_at
returns c = rw (c.edge-e.ensures, c.tet_ends-x.ensures, c.tet_at.ensures) refl

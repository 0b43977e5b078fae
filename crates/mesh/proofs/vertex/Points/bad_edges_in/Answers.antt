-- `mesh::vertex::Points::bad_edges_in` meets its contract. Assumes nothing.
use Rattle.std.proofs.Common.{◌∙◌}
use Rattle.mesh.specs.Words.{points_in}
use Rattle.mesh.proofs.Laws.List.Whole.{edges, edges-listed}
use Rattle.mesh.proofs.vertex.Points.bad_edges_in.Goals as goal

pub bad_rows_in-requires : goal.bad_rows_in-requires
bad_rows_in-requires c = edges

pub returns : goal.returns
returns c = c.bad_rows_in.ensures ∙ edges-listed (points_in c.args.self) c.args.n c.args.area.now

-- `mesh::manifold::edges_twice` meets its contract: the edges are listed, sorted and counted by runs. Assumes nothing.
use Rattle.std.proofs.Common.{◌∙◌}
use Rattle.mesh.proofs.Laws.Manifold.Steps.{edge_row-told}
use Rattle.mesh.proofs.Laws.Manifold.Whole.{edges-both, edges-answer}
use Rattle.mesh.proofs.manifold.edges_twice.Goals as goal

pub fill_rows-requires-clause-told : goal.fill_rows-requires-clause-told
fill_rows-requires-clause-told c = edge_row-told c.args.area.now c.args.n

pub returns : goal.returns
returns c = (c.all_two.ensures ∙ edges-answer c.args.n c.args.area.now c.requires.1 c.fill_rows.new.area c.fill_rows.ensures c.sort_from.new.area c.sort_from.ensures, edges-both c.args.n c.args.area.now c.requires.1 c.fill_rows.new.area c.fill_rows.ensures c.sort_from.new.area c.sort_from.ensures)

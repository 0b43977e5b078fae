-- `mesh::manifold::links_cycle` meets its contract: the corners are listed, sorted and tested by runs. Assumes nothing.
use Rattle.std.proofs.Common.{◌∙◌}
use Rattle.mesh.proofs.Laws.Manifold.Steps.{link_row-told}
use Rattle.mesh.proofs.Laws.Manifold.Whole.{links-ready, links-answer, links_end}
use Rattle.mesh.proofs.manifold.links_cycle.Goals as goal

pub fill_rows-requires-clause-told : goal.fill_rows-requires-clause-told
fill_rows-requires-clause-told c = link_row-told c.args.area.now c.args.n

pub all_cycles-requires : goal.all_cycles-requires
all_cycles-requires c = let a = c.args in let p = c.requires in links-ready a.n a.area.now p.0 p.1 p.2 c.fill_rows.new.area c.fill_rows.ensures c.sort_from.new.area c.sort_from.ensures c.clear_from.new.area c.clear_from.ensures

pub returns : goal.returns
returns c = let a = c.args in let p = c.requires in (c.all_cycles.ensures.0 ∙ links-answer a.n a.area.now p.0 p.1 p.2 c.fill_rows.new.area c.fill_rows.ensures c.sort_from.new.area c.sort_from.ensures c.clear_from.new.area c.clear_from.ensures, links_end a.n a.area.now p.0 p.1 p.2 c.fill_rows.new.area c.fill_rows.ensures c.sort_from.new.area c.sort_from.ensures c.clear_from.new.area c.clear_from.ensures c.all_cycles.ensures.1)

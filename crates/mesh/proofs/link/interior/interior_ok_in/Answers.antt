-- `mesh::link::interior::interior_ok_in` meets its contract, call by call. Assumes nothing.
use Rattle.std.proofs.Common.{sym, ◌∙◌}
use Rattle.mesh.specs.Link.{interior_ok}
use Rattle.mesh.proofs.Laws.LinkRows.Whole.{proper-kept, later}
use Rattle.mesh.proofs.link.interior.interior_ok_in.Goals as goal

pub interior_by_table-requires : goal.interior_by_table-requires
interior_by_table-requires c = (proper-kept c.fill_table.ensures c.requires, sym c.all_told.ensures ∙ c.if-all_told.true)

pub returns-then-all_told : goal.returns-then-all_told
returns-then-all_told c = later c.fill_table.ensures (interior_ok c.args.ab.a c.args.ab.b) c.interior_by_table.ensures

pub interior_by_all-requires-2 : goal.interior_by_all-requires-2
interior_by_all-requires-2 c = proper-kept c.fill_table.ensures c.requires

pub returns : goal.returns
returns c = later c.fill_table.ensures (interior_ok c.args.ab.a c.args.ab.b) c.interior_by_all-2.ensures

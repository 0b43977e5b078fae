-- `mesh::list::set_from` meets its contract: sorted, equal neighbours taken out, and cleared behind. Assumes nothing.
use Rattle.std.proofs.Common.{arith}
use Rattle.mesh.proofs.Laws.List.Rows.{set-number, clear_room, set-area}
use Rattle.mesh.proofs.list.set_from.Goals as goal

pub overflow_mul-w : goal.overflow_mul-w
overflow_mul-w c = let a = c.args in omega (arith, clear_room a.a a.n a.w a.area.now c.sort_from.new.area c.requires.0 c.requires.1 c.sort_from.ensures c.unique_from-k.result c.unique_from-k.new.area c.unique_from-k.ensures.0 c.unique_from-k.ensures.1)

pub overflow_add-a : goal.overflow_add-a
overflow_add-a c = let a = c.args in omega (arith, clear_room a.a a.n a.w a.area.now c.sort_from.new.area c.requires.0 c.requires.1 c.sort_from.ensures c.unique_from-k.result c.unique_from-k.new.area c.unique_from-k.ensures.0 c.unique_from-k.ensures.1)

pub clear_from-requires : goal.clear_from-requires
clear_from-requires c = let a = c.args in clear_room a.a a.n a.w a.area.now c.sort_from.new.area c.requires.0 c.requires.1 c.sort_from.ensures c.unique_from-k.result c.unique_from-k.new.area c.unique_from-k.ensures.0 c.unique_from-k.ensures.1

pub returns : goal.returns
returns c = let a = c.args in (set-number a.a a.n a.w a.area.now c.sort_from.new.area c.requires.0 c.requires.1 c.sort_from.ensures c.unique_from-k.result c.unique_from-k.new.area c.unique_from-k.ensures.0 c.unique_from-k.ensures.1, set-area a.a a.n a.w a.area.now c.sort_from.new.area c.requires.0 c.requires.1 c.sort_from.ensures c.unique_from-k.result c.unique_from-k.new.area c.unique_from-k.ensures.0 c.unique_from-k.ensures.1 c.clear_from.new.area c.clear_from.ensures)

-- `report::buffers::Buffers::print_table` meets its contract: the counts are small, and the table is written. Assumes nothing.
use Rattle.std.proofs.Common.{ap, arith}
use Rattle.mesh.specs.declared.euler.Counts.{Counts}
use Rattle.mesh.specs.Element.{tets}
use Rattle.mesh.proofs.Laws.Intake.Reads.{length-tets}
use Rattle.report.proofs.Laws.Passes.{simplices-few}
use Rattle.report.proofs.Laws.Counted.{table-written}
use Rattle.report.proofs.buffers.Buffers.print_table.Goals as goal

pub overflow_add-euler : goal.overflow_add-euler
overflow_add-euler c = let a = c.args in let f = simplices-few (tets a.run.sizes.elements a.self.now.elements) in let l = length-tets a.run.sizes.elements a.self.now.elements in let e = c.simplices-counts.ensures in let h = c.requires.1 in omega (arith, f.0, f.2, ap (λ (x : Counts). x.vertices) e, ap (λ (x : Counts). x.triangles) e)

pub overflow_add-euler-2 : goal.overflow_add-euler-2
overflow_add-euler-2 c = let a = c.args in let f = simplices-few (tets a.run.sizes.elements a.self.now.elements) in let l = length-tets a.run.sizes.elements a.self.now.elements in let e = c.simplices-counts.ensures in let h = c.requires.1 in omega (arith, f.1, f.3, ap (λ (x : Counts). x.edges) e, ap (λ (x : Counts). x.elements) e)

pub returns : goal.returns
returns c = let a = c.args in (table-written a.fields.now a.run.changes.collapsed a.run.changes.moved a.run.changes.reconnected a.run.sizes.vertices a.run.sizes.elements a.self.now.points a.self.now.elements c.simplices-counts.result c.requires.2 c.simplices-counts.ensures c.table_text.ensures.0, omega (arith, c.table_text.ensures.1, c.requires.1))

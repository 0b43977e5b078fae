-- `report::print::simplices` meets its contract: the elements are copied, and counted there. Assumes nothing.
use Rattle.report.proofs.Laws.Passes.{simplices-are}
use Rattle.report.proofs.print.simplices.Goals as goal

pub returns : goal.returns
returns c = let a = c.args in simplices-are a.n a.elements.now a.work.now c.copy_part.new.d c.euler_in.new.area c.euler_in.result c.requires.0 c.requires.1 c.requires.2 c.copy_part.ensures c.euler_in.ensures

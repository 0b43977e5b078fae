-- `report::table::element_lines` meets its contract. The invariant: the lines of the first i elements stand there. Assumes nothing.
use Rattle.std.proofs.Common.{refl, ◌∙◌, arith}
use Rattle.mesh.specs.Element.{tets}
use Rattle.report.specs.Table.{element_lines}
use Rattle.report.proofs.Laws.Loops.{element-more}
use Rattle.report.proofs.table.element_lines.Goals as goal

pub loop-i-init : goal.loop-i-init
unfolding element_lines tets
loop-i-init c = (omega arith, omega arith, refl, record { bytes = refl; place = omega arith })

pub loop-i-preserved : goal.loop-i-preserved
loop-i-preserved c = (omega arith, omega (arith, c.element_line-p.ensures.1), c.element_line-p.auto.out ∙ c.loop-i.invariant.2, element-more c.args.mesh.elements.now c.loop-i.i c.element.result c.element.ensures c.loop-i.invariant.3 c.element_line-p.ensures.0)

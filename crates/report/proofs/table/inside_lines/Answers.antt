-- `report::table::inside_lines` meets its contract. The invariant: the lines of the first j fields stand there. Assumes nothing.
use Rattle.std.proofs.Common.{refl, ◌∙◌, arith}
use lib.Ieee.{nan}
use Rattle.geometry.specs.declared.field.Field.TheVariants.{Level}
use Rattle.mesh.specs.Words.{points_in}
use Rattle.report.specs.inside.Meshes.{elements_in}
use Rattle.report.specs.Table.{inside_count, inside_lines}
use Rattle.report.proofs.Laws.Loops.{inside-more}
use Rattle.report.proofs.table.inside_lines.Goals as goal

pub loop-j-init : goal.loop-j-init
unfolding inside_lines
loop-j-init c = (omega arith, omega arith, refl, record { bytes = refl; place = omega arith })

pub loop-j-preserved : goal.loop-j-preserved
loop-j-preserved c = (omega arith, omega (arith, c.inside_line-p.ensures.1), c.inside_line-p.auto.out ∙ c.loop-j.invariant.2, inside-more (inside_count (points_in c.args.mesh.points) (elements_in c.args.mesh)) c.args.fields.now (Level nan) c.loop-j.j c.inside_count.result (omega arith) c.inside_count.ensures.0 c.loop-j.invariant.3 c.inside_line-p.ensures.0)

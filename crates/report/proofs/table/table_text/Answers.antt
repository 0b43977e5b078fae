-- `report::table::table_text` meets its contract, part by part. Assumes nothing.
use Rattle.std.proofs.Common.{map, arith}
use lib.IntN.{sub_ℕ}
use Rattle.mesh.specs.Words.{points_in}
use Rattle.report.specs.inside.Meshes.{elements_in}
use Rattle.mesh.proofs.Laws.Intake.Reads.{length-tets}
use Rattle.report.specs.Table.{sizes_line, counts_line, state_line, inside_lines, inside_count, element_lines, table_text}
use Rattle.report.proofs.Laws.Lines.{five}
use Rattle.report.proofs.table.table_text.Goals as goal

pub returns : goal.returns
unfolding table_text
returns c = (rw (length-tets c.args.mesh.count c.args.mesh.elements.now, ← c.low_count-low.ensures.0) (five (sizes_line c.args.mesh.points.count c.args.mesh.count) (counts_line c.args.changes.collapsed c.args.changes.moved c.args.changes.reconnected) (state_line c.low_count-low.result (sub_ℕ c.args.euler.plus c.args.euler.minus)) (inside_lines 0 (map (inside_count (points_in c.args.mesh.points) (elements_in c.args.mesh)) c.args.fields.now)) (element_lines (elements_in c.args.mesh)) c.sizes_line-a.ensures.0 c.counts_line-b.ensures.0 c.state_line-c.ensures.0 c.inside_lines-d.ensures.0 c.element_lines.ensures.0), omega (arith, c.sizes_line-a.ensures.1, c.counts_line-b.ensures.1, c.state_line-c.ensures.1, c.inside_lines-d.ensures.1, c.element_lines.ensures.1, c.requires))

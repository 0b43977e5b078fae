-- `mesh::intake::all_different` meets its contract: the rows are filled, sorted, compared and cleared. Assumes nothing.
use Rattle.std.proofs.Common.{ap, ◌∙◌}
use Rattle.mesh.specs.inside.Intake.{none_twice}
use Rattle.mesh.proofs.Laws.Intake.Area.{rows-listed, sorted-rows, area-cleared}
use Rattle.mesh.proofs.intake.all_different.Goals as goal

pub returns : goal.returns
returns c =
    record { value = c.none_twice-different.ensures ∙ ap none_twice (sorted-rows c.args.n c.args.elements.now c.args.work.now c.fill_rows.new.area c.requires.1 (rows-listed c.args.elements.now c.args.work.now c.fill_rows.new.area c.args.n c.fill_rows.ensures) c.sort_rows.new.area c.sort_rows.ensures); work_after = area-cleared c.args.n c.args.elements.now c.args.work.now c.fill_rows.new.area c.requires.1 (rows-listed c.args.elements.now c.args.work.now c.fill_rows.new.area c.args.n c.fill_rows.ensures) c.sort_rows.new.area c.sort_rows.ensures c.zero_all.new.s c.zero_all.ensures }

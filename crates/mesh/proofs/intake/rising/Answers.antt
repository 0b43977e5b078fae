-- `mesh::intake::rising` meets its contract: the library's sort is the one of specs/Sort. Assumes nothing.
use Rattle.std.proofs.Common.{ap, ◌∙◌}
use Rattle.std.specs.Prelude.{nat_le}
use Rattle.mesh.specs.Sort.{sort}
use Rattle.mesh.specs.inside.Intake.{vertex_row}
use Rattle.mesh.proofs.Laws.SortedNumbers.{library-sort}
use Rattle.mesh.proofs.intake.rising.Goals as goal

pub returns : goal.returns
unfolding vertex_row
returns c = library-sort _ _ c.sort_unstable.ensures.permutation c.sort_unstable.ensures.sorted ∙ ap (sort nat_le) c.vertices-row.ensures

-- `report::counted::Mesh::place_of` meets its contract. Assumes nothing.
use Rattle.std.proofs.Common.{◌∙◌}
use Rattle.report.specs.Table.{mean, place_of}
use Rattle.report.proofs.counted.Mesh.place_of.Goals as goal

pub returns : goal.returns
unfolding place_of
returns c = c.mean.ensures ∙ (λ i. mean (c.at.ensures i) (c.at-2.ensures i) (c.at-3.ensures i) (c.at-4.ensures i))

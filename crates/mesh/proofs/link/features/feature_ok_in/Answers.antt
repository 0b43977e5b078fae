-- `mesh::link::features::feature_ok_in` meets its contract, call by call. Assumes nothing.
use Rattle.std.proofs.Common.{◌∙◌}
use Rattle.mesh.specs.Feature.{strata_in}
use Rattle.mesh.proofs.Laws.LinkRows.Whole.{feature-answer}
use Rattle.mesh.proofs.link.features.feature_ok_in.Goals as goal

pub returns : goal.returns
returns c = let e = c.args.e in let i = c.boundary_start-from.ensures in (rw i at c.features_pass.ensures) ∙ feature-answer e.a e.b c.args.m c.args.area.now c.requires (strata_in e.strata) c.has_mark.result e.inside (rw i at c.has_mark.ensures)

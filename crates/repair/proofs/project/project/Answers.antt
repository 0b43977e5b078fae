-- `project::project` meets its contract: the steps from the candidate, set back in the locked directions. Assumes nothing.
use mathlib.Core.Path.{◌∙◌, ap}
use lib.Ieee.{of_bits}
use Rattle.geometry.specs.Float.{◌*₆₄◌}
use Rattle.geometry.specs.Literals.{e_12}
use Rattle.repair.specs.Project.{Locked, held, onward, steps, project}
use Rattle.repair.proofs.project.project.Goals as goal

pub returns : goal.returns
unfolding project of_bits
returns c = c.steps.ensures c.args.b c.args.origin c.at-l.ensures (ap (λ x. e_12 *₆₄ x) c.extent-tolerance.ensures) ∙ (λ i. steps c.args.b c.args.origin c.args.active.list.now 12 (onward ((c.held.ensures ∙ ap (λ (l : Locked). held l c.args.origin c.args.candidate) c.at-l.ensures) i)))

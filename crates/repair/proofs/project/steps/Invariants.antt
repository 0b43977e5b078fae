-- `project::steps` meets its contract. The invariant: the steps left, from here on, give what all 12 give. Assumes nothing.
use Rattle.std.proofs.Common.{◌≡◌, ◌-◌}
use Rattle.geometry.specs.declared.bounds.Bounds.{Bounds}
use Rattle.geometry.specs.declared.point.Point.{Point}
use Rattle.geometry.specs.Float.{◌*₆₄◌}
use Rattle.geometry.specs.Literals.{e_12}
use Rattle.repair.specs.Project.{locked_of, extent, onward, steps}
use Rattle.repair.specs.inside.project.Solve.{locks}
use Rattle.repair.proofs.project.steps.Given as goal

abbrev pub invariant-loop : goal.invariant-loop
invariant-loop l = (b : Bounds) (o : Point) → locks l.l ≡ locked_of b o → l.tolerance ≡ e_12 *₆₄ extent b → steps b o l.active.list.now (12 - l.counter) (onward l.at) ≡ steps b o l.active.list.now 12 (onward l.initial.at)

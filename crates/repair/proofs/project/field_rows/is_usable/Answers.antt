-- `field_rows::is_usable` meets its contract, test by test. Assumes nothing.
use Rattle.std.proofs.Common.{arith}
use lib.Ieee.{ne, of_bits}
use Rattle.repair.proofs.Laws.Project.Floats.{finite_test}
use Rattle.repair.proofs.project.field_rows.is_usable.Goals as goal

pub returns-then-m : goal.returns-then-m
unfolding of_bits ne
returns-then-m c = grind (arith, finite_test)

pub returns-else-m : goal.returns-else-m
unfolding of_bits ne
returns-else-m c = grind (arith, finite_test)

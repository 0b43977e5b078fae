-- `matrix::is_pivot` meets its contract, test by test. Assumes nothing.
use Rattle.std.proofs.Common.{arith}
use lib.Ieee.{of_bits}
use Rattle.repair.proofs.Laws.Project.Floats.{finite_test}
use Rattle.repair.proofs.project.matrix.is_pivot.Goals as goal

pub returns-then-is_finite : goal.returns-then-is_finite
unfolding of_bits
returns-then-is_finite c = grind (arith, finite_test)

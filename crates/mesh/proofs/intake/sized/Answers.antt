-- `mesh::intake::sized` meets its contract, by its two tests. Assumes nothing.
use Rattle.mesh.proofs.intake.sized.Goals as goal

pub returns-then-x : goal.returns-then-x
unfolding lib.Ieee.of_bits lib.Ieee.neg
returns-then-x c = rw c.if-x.true

pub returns-else-x : goal.returns-else-x
unfolding lib.Ieee.of_bits lib.Ieee.neg
returns-else-x c = rw c.if-x.false

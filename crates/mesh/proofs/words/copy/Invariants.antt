-- `mesh::words::copy` meets its contract. The invariant: the first i elements are copied. Assumes nothing.
use Rattle.std.proofs.Common.{◌≡◌, ◌++◌, length, take, drop}
use Rattle.mesh.proofs.words.copy.Given as goal

abbrev pub invariant-loop-i : goal.invariant-loop-i
invariant-loop-i g l = (l.to ≡ take l.i l.from ++ drop l.i l.initial.to) × (length l.to ≡ length l.initial.to)

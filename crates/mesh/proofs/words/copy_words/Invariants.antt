-- `mesh::words::copy_words` meets its contract. The invariant: the first p words are pasted. Assumes nothing.
use Rattle.std.proofs.Common.{◌≡◌, ◌≤◌, length, drop}
use lib.Seq.{paste}
use Rattle.mesh.proofs.words.copy_words.Given as goal

abbrev pub invariant-loop-p : goal.invariant-loop-p
invariant-loop-p l = (l.p ≤ l.n) × (l.s ≡ paste l.initial.s l.k (drop l.i l.initial.s) l.p) × (length l.s ≡ length l.initial.s)

-- `mesh::manifold::one_cycle` meets its contract. The invariant: what is marked, and the rounds that are left from there. Assumes nothing.
use Rattle.std.proofs.Common.{◌-◌, length}
use Rattle.mesh.proofs.Laws.Manifold.Growth.{Reaching}
use Rattle.mesh.proofs.Laws.Manifold.Cycles.{pairs_at}
use Rattle.mesh.proofs.manifold.one_cycle.Given as goal

abbrev pub invariant-loop-round : goal.invariant-loop-round
invariant-loop-round l = Reaching l.mark (pairs_at l.p l.k l.links) l.start l.k (length l.fn.marks) l.marks (l.k - l._round) l.count

-- `mesh::manifold::grow` meets its contract. The invariant: the marks are grown by the pairs passed. Assumes nothing.
use Rattle.std.proofs.Common.{◌≤◌, take}
use Rattle.mesh.specs.inside.Manifold.{Grown}
use Rattle.mesh.proofs.Laws.Manifold.Cycles.{pairs_at}
use Rattle.mesh.proofs.manifold.grow.Given as goal

abbrev pub invariant-loop-i : goal.invariant-loop-i
invariant-loop-i l = (l.i ≤ l.k) × (l.added ≤ l.i) × Grown l.mark (take l.i (pairs_at l.p l.k l.links)) l.initial.marks l.marks l.added

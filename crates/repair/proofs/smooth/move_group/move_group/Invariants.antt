-- `repair::smooth::move_group::move_group` meets its contract. The invariant: the vertices from the k-th on are placed. Assumes nothing.
use Prim.Native.Nat.{◌≤◌}
use Rattle.repair.specs.inside.smooth.Site.{Placed, new_parameters, new_point}
use Rattle.repair.proofs.Laws.Site.Moved.{tail}
use Rattle.repair.proofs.smooth.move_group.move_group.Given as goal

abbrev pub invariant-loop-k : goal.invariant-loop-k
invariant-loop-k l =
    (l.k ≤ l.s.count) × Placed l.s.vertices (new_parameters l.o l.s.vertices l.initial.parameters l.p) (tail l.work l.s.group l.s.count l.k) l.initial.parameters l.parameters
    × Placed l.s.vertices (new_point l.o l.s.vertices l.initial.parameters l.p) (tail l.work l.s.group l.s.count l.k) l.initial.points l.points

-- `repair::flip::orient::orient` meets its contract. The invariant: the elements so far are oriented. Assumes nothing.
use mathlib.Core.Path.{◌≡◌}
use mathlib.Core.List.{map, ◌++◌}
use lib.ListN.{take, drop}
use Rattle.mesh.specs.Words.{points_in}
use Rattle.mesh.specs.Measure.{measure}
use Rattle.repair.specs.Flip.{oriented}
use Rattle.repair.proofs.flip.orient.orient.Given as goal

abbrev pub invariant-loop-t : goal.invariant-loop-t
invariant-loop-t l = l.ts ≡ map (oriented (measure (points_in l.points))) (take l.t-index l.initial.ts) ++ drop l.t-index l.initial.ts

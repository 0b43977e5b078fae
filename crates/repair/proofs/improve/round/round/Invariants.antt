-- `repair::improve::round::round` meets its contract. Assumes nothing.
use Prim.Native.Nat.{◌+◌}
use lib.ListN.{get_or}
use Rattle.mesh.specs.Element.{pair}
use Rattle.mesh.specs.Words.{points_in}
use Rattle.repair.proofs.Laws.Round.{AtEdge, AtWay, AtPair}
use Rattle.repair.proofs.improve.round.round.Given as goal

abbrev pub invariant-loop-p : goal.invariant-loop-p
invariant-loop-p l = AtPair l.given.options l.given.index l.given.index.room l.count l.fn.work (points_in l.given.parameters) (points_in l.given.points) l.given.masks.now l.work l.replaced (l.i + 1) (get_or l.t-items 0 (pair 0 0)) (l.t-index + 1) l.k l.p

abbrev pub invariant-directions : goal.invariant-directions
invariant-directions l = AtWay l.given.options l.given.index l.given.index.room l.count l.fn.work (points_in l.given.parameters) (points_in l.given.points) l.given.masks.now l.work l.replaced (l.i + 1) (get_or l.t-items 0 (pair 0 0)) l.t-index

abbrev pub invariant-edges : goal.invariant-edges
invariant-edges l = AtEdge l.given.options l.given.index l.given.index.room l.count l.fn.work (points_in l.given.parameters) (points_in l.given.points) l.given.masks.now l.work l.replaced l.i

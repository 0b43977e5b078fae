-- `repair::flip::three_to_two::put_others` meets its contract. The invariant: the vertices so far are put. Assumes nothing.
use Rattle.mesh.specs.Element.{vertices_of}
use Rattle.repair.proofs.Laws.Flip.Others.{PuttingVertices}
use Rattle.repair.proofs.flip.three_to_two.put_others.Given as goal

abbrev pub invariant-loop-v : goal.invariant-loop-v
invariant-loop-v l = PuttingVertices l.e l.initial.area l.k (vertices_of l.fn.t) l.area l.n l.v-index

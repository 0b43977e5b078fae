-- `mesh::vertex::Points::list_bad` meets its contract. The invariant: the bad elements of the slots passed are gathered. Assumes nothing.
use Rattle.mesh.specs.Words.{points_in}
use Rattle.mesh.specs.inside.List.{bad_in}
use Rattle.mesh.proofs.Laws.List.Bad.{Gathering}
use Rattle.mesh.proofs.vertex.Points.list_bad.Given as goal

abbrev pub invariant-loop-e : goal.invariant-loop-e
invariant-loop-e l = Gathering (bad_in (points_in l.self)) l.n l.initial.area l.area l.k l.e

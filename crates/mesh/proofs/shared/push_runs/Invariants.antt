-- `mesh::shared::push_runs` meets its contract. The invariant: what the runs passed give is pushed. Assumes nothing.
use Rattle.mesh.proofs.Laws.Shared.Scan.{Running}
use Rattle.mesh.proofs.shared.push_runs.Given as goal

abbrev pub invariant-loop-run : goal.invariant-loop-run
invariant-loop-run l = Running l.n l.fn.area l.out l.count l.run-iterator

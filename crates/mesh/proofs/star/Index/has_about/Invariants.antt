-- `mesh::star::Index::has_about` meets its contract. The invariant: the entries counted and those left are all. Assumes nothing.
use Rattle.std.proofs.Common.{◌-◌}
use Rattle.mesh.proofs.Laws.About.Members.{Summing}
use Rattle.mesh.proofs.star.Index.has_about.Given as goal

abbrev pub invariant-loop : goal.invariant-loop
invariant-loop l = Summing l.self l.s l.from l.count l.step l.p (l.count - l.counter) l.n

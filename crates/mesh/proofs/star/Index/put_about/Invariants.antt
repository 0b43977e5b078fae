-- `mesh::star::Index::put_about` meets its contract. The invariant: the slots put and those of the members left are all. Assumes nothing.
use Rattle.std.proofs.Common.{◌-◌}
use Rattle.mesh.specs.inside.About.{members, slots_of}
use Rattle.mesh.proofs.Laws.About.Answer.{Putting}
use Rattle.mesh.proofs.star.Index.put_about.Given as goal

abbrev pub invariant-loop : goal.invariant-loop
invariant-loop l = Putting l.self (slots_of l.self l.initial.s (members l.count l.from l.step l.initial.s)) l.initial.s l.s l.step l.p (l.count - l.counter) l.n

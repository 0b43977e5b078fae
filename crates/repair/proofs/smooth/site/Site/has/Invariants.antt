-- `site::Site::has` meets its contract. The invariant: v is among the rows left if it is among all. Assumes nothing.
use Rattle.std.proofs.Common.{◌≡◌, ◌+◌, ◌-◌, ◌*◌}
use Rattle.mesh.specs.Complex.{mem}
use Rattle.repair.specs.inside.smooth.Site.{members}
use Rattle.repair.proofs.smooth.site.Site.has.Given as goal

abbrev pub invariant-loop-k : goal.invariant-loop-k
invariant-loop-k l = mem l.v (members l.work (l.self.group + 7 * l.k) (l.self.count - l.k)) ≡ mem l.v (members l.work l.self.group l.self.count)

-- `regions::Regions::active` meets its contract. The invariant: the first n of `active` and the fields left are the fields chosen. Assumes nothing.
use Rattle.std.proofs.Common.{◌≡◌, ◌≤◌, ◌++◌, length, take, drop}
use Rattle.repair.specs.Smooth.{chosen}
use Rattle.repair.proofs.smooth.regions.Regions.active.Given as goal

abbrev pub invariant-loop-f : goal.invariant-loop-f
invariant-loop-f l = (length l.active ≡ 8) × (l.n ≤ l.f-index) × (take l.n l.active ++ chosen l.bits (drop l.f-index l.self.fields.list.now) ≡ chosen l.mask l.self.fields.list.now)

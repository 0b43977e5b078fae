-- `regions::Regions::outside_region` meets its contract. The invariant: what is left of the fields chosen is the whole. Assumes nothing.
use Rattle.std.proofs.Common.{◌≡◌, drop}
use Rattle.repair.specs.Smooth.{chosen, outside}
use Rattle.repair.proofs.smooth.regions.Regions.outside_region.Given as goal

abbrev pub invariant-loop-f : goal.invariant-loop-f
invariant-loop-f l = outside l.p (chosen l.bits (drop l.f-index l.self.fields.list.now)) ≡ outside l.p (chosen l.mask l.self.fields.list.now)

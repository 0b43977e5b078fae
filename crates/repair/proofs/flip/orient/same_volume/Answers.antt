-- `repair::flip::orient::same_volume` meets its contract. Assumes nothing.
use mathlib.Core.Path.{refl}
use Rattle.repair.proofs.flip.orient.same_volume.Goals as goal

pub returns : goal.returns
unfolding lib.Ieee.of_bits
returns c = rw (c.absolute.ensures, c.volume-n.ensures, c.volume-m.ensures) refl

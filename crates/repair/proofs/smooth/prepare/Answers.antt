-- `repair::smooth::prepare` meets its contract. Assumes nothing.
use mathlib.Core.Path.{refl}
use Rattle.repair.proofs.Laws.Site.Prepared.{prepared-is}
use Rattle.repair.proofs.smooth.prepare.Goals as goal

pub returns : goal.returns
returns c =
    let both = prepared-is c.args.o c.layout-x.result c.args.parameters.now c.args.elements.now c.args.work.now _ _ _ c.args.sizes.vertices c.args.sizes.elements c.layout-x.ensures.0 c.layout-x.ensures.1 c.requires.room.2 c.requires.elements.0 c.requires.elements.1 c.group_in.auto.area (rw c.new.ensures at c.group_in.ensures) refl c.lay_elements.ensures in
    record { laid = both.0; slots = both.1 }

-- `repair::flip::prepare::lay_slots` meets its contract. Assumes nothing.
use mathlib.Core.Path.{refl}
use Rattle.repair.proofs.Laws.Flip.Begin.{slots-laid}
use Rattle.repair.proofs.flip.prepare.lay_slots.Goals as goal

pub returns : goal.returns
returns c = slots-laid c.args.given.now.index c.args.given.now.elements c.args.elements.now c.args.work.now _ c.lay_elements.new.work c.requires.flip_room c.requires.elements.0 c.requires.elements.1 refl c.lay_elements.ensures

-- `repair::flip::prepare::begin_flip` meets its contract. Assumes nothing.
use Rattle.repair.proofs.Laws.Flip.Begin.{begun}
use Rattle.repair.proofs.flip.prepare.begin_flip.Goals as goal

pub returns : goal.returns
returns c = begun c.requires.flip_room c.lay_faces-faces.ensures c.lay_edges-l.ensures c.lay_slots.ensures

-- `repair::flip::prepare::lay_faces` meets its contract. Assumes nothing.
use mathlib.Core.Path.{refl}
use Rattle.mesh.specs.Words.{points_in}
use Rattle.repair.proofs.Laws.Flip.Lists.{faces-laid}
use Rattle.repair.proofs.flip.prepare.lay_faces.Goals as goal

pub returns : goal.returns
returns c = faces-laid c.args.given.now.index c.args.given.now.elements (points_in c.args.given.now.points) c.args.elements.now c.args.work.now c.copy_part.new.d c.shared_faces_in.new.area _ c.shared_faces_in.result c.requires.0 c.requires.1 _ _ c.faces_at-k.ensures c.edges_at-e.ensures c.copy_part.ensures c.shared_faces_in.ensures refl

-- `repair::flip::prepare::lay_edges` meets its contract. Assumes nothing.
use mathlib.Core.Path.{refl}
use Rattle.mesh.specs.Words.{points_in}
use Rattle.repair.proofs.Laws.Flip.Lists.{edges-laid}
use Rattle.repair.proofs.flip.prepare.lay_edges.Goals as goal

pub returns : goal.returns
returns c = edges-laid c.args.given.now.index c.args.given.now.elements (points_in c.args.given.now.points) c.args.elements.now c.args.work.now c.copy_part.new.d c.bad_edges_in.new.area _ c.bad_edges_in.result c.requires.0 c.requires.1 _ c.edges_at-k.ensures c.copy_part.ensures c.bad_edges_in.ensures refl

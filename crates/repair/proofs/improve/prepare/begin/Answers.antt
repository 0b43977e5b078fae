-- `repair::improve::prepare::begin` meets its contract. Assumes nothing.
use mathlib.Core.Path.{refl}
use Rattle.repair.specs.inside.improve.Partners.{vertices_of}
use Rattle.repair.proofs.Laws.Begin.{begun}
use Rattle.repair.proofs.improve.prepare.begin.Goals as goal

pub returns : goal.returns
returns c = let g = c.args.given.now in λ m r. begun g.options m g.index g.index.room (vertices_of g) c.args.elements.now c.args.work.now c.group_in.new.area _ c.lay_elements.new.work c.requires.room c.requires.clean c.requires.elements.0 c.requires.elements.1 c.requires.many r.parameters c.group_in.ensures refl c.lay_elements.ensures

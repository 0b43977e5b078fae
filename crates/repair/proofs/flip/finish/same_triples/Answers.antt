-- `repair::flip::finish::same_triples` meets its contract. Assumes nothing.
use mathlib.Core.Path.{◌∙◌}
use Rattle.repair.proofs.Laws.Flip.Keys.{ranges-same}
use Rattle.repair.proofs.flip.finish.same_triples.Goals as goal

pub returns : goal.returns
returns c = c.eq.ensures ∙ ranges-same c.args.area.now c.args.p c.args.q c.args.c c.requires.0 c.requires.1

-- `mesh::vertex::Points::shared_faces_in` meets its contract: rows listed, sorted, scanned, and the answer moved to the elements. Assumes nothing.
use Rattle.std.proofs.Common.{sym, ◌∙◌}
use Rattle.mesh.specs.Words.{points_in}
use Rattle.mesh.proofs.Laws.Shared.Whole.{in-no, listing}
use Rattle.mesh.specs.inside.Shared.{shared_fits}
use Rattle.mesh.proofs.vertex.Points.shared_faces_in.Goals as goal

pub returns-then-not-fits : goal.returns-then-not-fits
unfolding shared_fits
returns-then-not-fits c = in-no (points_in c.args.self) c.args.n c.args.area.now (sym c.fits.ensures ∙ c.if-not-fits.true)

pub returns : goal.returns
unfolding shared_fits
returns c = listing (points_in c.args.self) c.args.n c.args.area.now c.list_owned.new.area (sym c.fits.ensures ∙ c.if-not-fits.false) c.list_owned.ensures c.sort_from.new.area c.sort_from.ensures c.push_runs-k.result c.push_runs-k.new.area c.push_runs-k.ensures.0 c.push_runs-k.ensures.1 c.copy_words.new.s c.copy_words.ensures c.clear_from.new.area c.clear_from.ensures

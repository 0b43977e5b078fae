-- `mesh::words::zero_all` meets its contract: a filled slice is all zeros. Assumes nothing.
use Rattle.std.proofs.Common.{length, replicate, ap, ◌∙◌}
use Rattle.mesh.proofs.words.zero_all.Goals as goal

pub returns : goal.returns
returns g c = c.fill.ensures.after (g.met.T.Zero.copies c.zero.result).1 ∙ ap (replicate (length c.args.s.now)) c.zero.ensures

-- `mesh::strata::shared_bits` meets its contract. Assumes nothing.
use Rattle.std.proofs.Common.{sym}
use Rattle.mesh.proofs.Laws.LinkRows.Bits.{shared-ones}
use Rattle.mesh.proofs.strata.shared_bits.Goals as goal

pub returns : goal.returns
returns c = sym (shared-ones c.args.m c.args.n (c.requires))

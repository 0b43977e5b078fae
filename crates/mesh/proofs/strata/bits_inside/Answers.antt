-- `mesh::strata::bits_inside` meets its contract: the test of the bits that both have. Assumes nothing.
use Rattle.std.proofs.Common.{sym}
use Rattle.mesh.proofs.Laws.LinkRows.Bits.{sub-bits}
use Rattle.mesh.proofs.strata.bits_inside.Goals as goal

pub returns : goal.returns
returns c = sym (sub-bits c.args.m c.args.n c.requires)

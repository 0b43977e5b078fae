-- `mesh::strata::Strata::of` meets its contract: a stratum has 38 bits. Assumes nothing.
use Rattle.std.proofs.Common.{arith}
use Rattle.geometry.proofs.Laws.Box.Cap.{stratum-lt}
use Rattle.mesh.proofs.strata.Strata.of.Goals as goal

pub returns-clause-below : goal.returns-clause-below
returns-clause-below c = rw c.stratum.ensures (stratum-lt c.at-2.result c.args.self.bounds c.at.result (omega arith))

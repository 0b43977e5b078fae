-- `report::block::Block::adds_to_zero` meets its contract. Assumes nothing.
use Rattle.std.proofs.Common.{ℕ, eqb, ap}
use Rattle.report.specs.Block.{adds_to_zero}
use Rattle.report.proofs.block.Block.adds_to_zero.Goals as goal

pub returns : goal.returns
unfolding adds_to_zero
returns c = ap (λ (u : ℕ). eqb u 0) c.sum.ensures

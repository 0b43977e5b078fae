-- `report::block::Block::rest_zero` meets its contract. Assumes nothing.
use Rattle.std.proofs.Common.{◌+◌, ◌*◌, ◌∙◌}
use Rattle.report.specs.Format.{words_a_block, first_record, record_room}
use Rattle.report.specs.Block.{rest_zero}
use Rattle.report.proofs.Laws.Spare.{zeros-room}
use Rattle.report.proofs.block.Block.rest_zero.Goals as goal

pub returns : goal.returns
unfolding rest_zero
returns c = rw c.record_size.ensures.0 at (c.zeros_to.ensures ∙ zeros-room c.args.self.bytes.now (words_a_block * c.args.self.k + first_record) (c.record_size.result * c.args.count) record_room)

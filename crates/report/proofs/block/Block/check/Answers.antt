-- `report::block::Block::check` meets its contract, test by test. Assumes nothing.
use Rattle.std.proofs.Common.{◌+◌, ◌*◌, length, le-ltb, lt-ltb}
use Rattle.std.proofs.Common.{ap, not}
use Rattle.mesh.proofs.Laws.Intake.Chains.{fails_by, holds_by}
use Rattle.report.specs.Format.{bytes_a_block}
use Rattle.report.specs.Block.{block_number}
use Rattle.report.proofs.block.Block.check.Goals as goal

pub returns-then-self : goal.returns-then-self
unfolding block_number
returns-then-self c = rw (lt-ltb (length c.args.self.bytes.now) (bytes_a_block * (c.args.self.k + 1)) c.if-self.true)

pub returns-then-not-adds_to_zero : goal.returns-then-not-adds_to_zero
unfolding block_number
returns-then-not-adds_to_zero c = rw (le-ltb (length c.args.self.bytes.now) (bytes_a_block * (c.args.self.k + 1)) c.if-self.false, fails_by c.adds_to_zero.ensures (ap not c.if-not-adds_to_zero.true))

pub returns-then-not-is_expected : goal.returns-then-not-is_expected
unfolding block_number
returns-then-not-is_expected c = rw (le-ltb (length c.args.self.bytes.now) (bytes_a_block * (c.args.self.k + 1)) c.if-self.false, holds_by c.adds_to_zero.ensures (ap not c.if-not-adds_to_zero.false), fails_by c.is_expected.ensures (ap not c.if-not-is_expected.true))

pub returns-then-not-spare_zero : goal.returns-then-not-spare_zero
unfolding block_number
returns-then-not-spare_zero c = rw (le-ltb (length c.args.self.bytes.now) (bytes_a_block * (c.args.self.k + 1)) c.if-self.false, holds_by c.adds_to_zero.ensures (ap not c.if-not-adds_to_zero.false), holds_by c.is_expected.ensures (ap not c.if-not-is_expected.false), fails_by c.spare_zero.ensures (ap not c.if-not-spare_zero.true))

pub returns : goal.returns
unfolding block_number
returns c = rw (le-ltb (length c.args.self.bytes.now) (bytes_a_block * (c.args.self.k + 1)) c.if-self.false, holds_by c.adds_to_zero.ensures (ap not c.if-not-adds_to_zero.false), holds_by c.is_expected.ensures (ap not c.if-not-is_expected.false), holds_by c.spare_zero.ensures (ap not c.if-not-spare_zero.false))

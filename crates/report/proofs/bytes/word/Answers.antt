-- `report::bytes::word` meets its contract. Assumes nothing.
use Rattle.std.proofs.Common.{arith}
use Rattle.report.specs.Bytes.{word_in}
use Rattle.report.proofs.bytes.word.Goals as goal

pub returns : goal.returns
unfolding word_in
returns c = omega (arith, c.from_le_bytes.ensures, c.byte.ensures, c.byte-2.ensures, c.byte-3.ensures, c.byte-4.ensures)

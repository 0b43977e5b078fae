-- `report::write::Cursor::put_end` meets its contract: the last word makes the sum 0. Assumes nothing.
use Rattle.std.proofs.Common.{arith}
use Rattle.report.proofs.Laws.Write.Puts.{put_last}
use Rattle.report.proofs.write.Cursor.put_end.Goals as goal

pub returns : goal.returns
returns c = (put_last c.args.n c.wrapping_sub_u32.result (omega arith) c.wrapping_sub_u32.ensures.value c.put_zeros-c.ensures.0 c.put_word.ensures.0, omega (arith, c.put_zeros-c.ensures.1, c.put_word.ensures.1))

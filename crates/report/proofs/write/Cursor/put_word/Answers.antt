-- `report::write::Cursor::put_word` meets its contract: four bytes are a word. Assumes nothing.
use Rattle.std.proofs.Common.{refl, ◌∙◌, arith}
use Rattle.report.proofs.Laws.Write.Puts.{put_one}
use Rattle.report.proofs.write.Cursor.put_word.Goals as goal

pub returns : goal.returns
returns c = (put_one c.args.out.now c.copy_from_slice.new.self c.args.self.at c.args.self.sum _ _ c.args.w (c.copy_from_slice.ensures.after ∙ c.to_le_bytes.ensures) (omega arith) refl refl, refl)

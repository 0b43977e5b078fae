-- `report::write::Cursor::put_rows` meets its contract. The invariant: i rows stand there. Assumes nothing.
use Rattle.std.proofs.Common.{ℕ, ◌+◌, length, refl, ap, ◌∙◌, arith}
use Rattle.report.specs.Bytes.{listed}
use Rattle.report.proofs.Laws.Write.Puts.{put-none, put-more, put_as}
use Rattle.report.proofs.write.Cursor.put_rows.Goals as goal

pub loop-i-init : goal.loop-i-init
unfolding listed
loop-i-init g c = (omega arith, refl, omega arith, put-none _ _ _)

pub loop-i-preserved : goal.loop-i-preserved
loop-i-preserved g c =
    let row = g.R.Rows.told c.args.rows.now in
    let wide = g.met.R.Rows.wide c.args.rows.now (c.args.first + c.loop-i.i) in
    (omega arith, c.put_words-c.auto.out ∙ c.loop-i.invariant.1, omega (arith, ap length c.put.ensures, wide, c.put_words-c.ensures.1), put-more (λ (r : ℕ). row (c.args.first + r)) c.loop-i.i c.loop-i.invariant.3 (put_as c.put.ensures c.put_words-c.ensures.0))

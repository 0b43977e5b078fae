-- `report::rows::put_rows` meets its contract. The invariant: the first rows, and behind them what stood there. Assumes nothing.
use Rattle.std.proofs.Common.{◌≡◌, ◌+◌, ◌-◌, ◌*◌, length, sym, ◌∙◌, arith, mul_comm}
use Rattle.std.proofs.lemmas.Slice.{put_mid-paste}
use Rattle.report.specs.Bytes.{listed}
use Rattle.report.proofs.Laws.Listed.{length-listed, listed_more}
use Rattle.report.proofs.rows.put_rows.Goals as goal

pub loop-i-init : goal.loop-i-init
unfolding listed
loop-i-init g c = let e : g.row.W * 0 ≡ 0 = omega arith in rw e

pub loop-i-preserved : goal.loop-i-preserved
loop-i-preserved g c =
    let w = g.row.W in
    let i = c.loop-i.i in
    let row = g.R.Rows.told c.args.rows.now in
    let wide = g.met.R.Rows.wide c.args.rows.now in
    let next : w * (i + 1) ≡ w * i + w = omega arith in
    let long : length (listed row i) ≡ w * i = length-listed row w wide i ∙ mul_comm i w in
    listed_more row w i (w * i) (w * (i + 1)) c.args.out.now c.loop-i.out _ (wide i) long next c.loop-i.invariant (put_mid-paste (w * i) (w * i + w - w * i) c.loop-i.out c.put.new.to (row i) w c.put.ensures (omega arith) (sym (wide i)))

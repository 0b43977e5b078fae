-- `report::write::put_records` meets its contract: the records, then the end. Assumes nothing.
use Rattle.std.proofs.Common.{◌≡◌, ℕ, ◌+◌, ◌-◌, ◌*◌, length, ◌∙◌, arith, mul_comm}
use Rattle.report.specs.Format.{block_kind_number, record_room}
use Rattle.report.specs.Write.{records_from}
use Rattle.report.proofs.Laws.Listed.{length-listed}
use Rattle.report.proofs.Laws.Write.Puts.{put-closed}
use Rattle.report.proofs.write.put_records.Goals as goal

pub returns : goal.returns
returns g c =
    let w = g.row.W in
    let a = c.args in
    let row = g.R.Rows.told a.rows.now in
    let l : length (records_from row a.first a.n) ≡ w * a.n = length-listed (λ (r : ℕ). row (a.first + r)) w (λ r. g.met.R.Rows.wide a.rows.now (a.first + r)) a.n ∙ mul_comm a.n w in
    (put-closed (block_kind_number a.kind) a.k a.n (records_from row a.first a.n) (record_room - w * a.n) (omega arith) c.put_front-c.ensures.0 c.put_rows-d.ensures.0 c.put_end.ensures.0, omega (arith, c.put_front-c.ensures.1, c.put_rows-d.ensures.1, c.put_end.ensures.1))

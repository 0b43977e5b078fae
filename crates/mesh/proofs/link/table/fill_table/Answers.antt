-- `mesh::link::table::fill_table` meets its contract: the words before the table stay. Assumes nothing.
use Rattle.std.proofs.Common.{◌*◌, ◌++◌, refl, ap, arith}
use Rattle.mesh.proofs.Laws.Manifold.Steps.{kept_less, put-kept}
use Rattle.mesh.proofs.link.table.fill_table.Goals as goal

pub returns : goal.returns
returns c =
    let x = c.args.area.now in
    let e = c.split_at_mut-front.ensures in
    let t = c.loop-e.table in
    let i = c.table_start-start.ensures in
    record {
      same = record { lent = refl; count = refl };
      elements = kept_less (omega arith) (put-kept (60 * x.n) x.words.now _ t (omega (arith, x.room)) (omega (arith, c.loop-e.auto.table, c.zero_all.auto.s, e.back_len, i)) (ap (λ l. l ++ t) (rw i at e.front)));
    }

-- `mesh::link::table::list_told` meets its contract. The invariant: the rows of the first e elements are written. Assumes nothing.
use Rattle.std.proofs.Common.{◌*◌, length, take, drop, sym, refl, ap, ◌∙◌, arith}
use Rattle.mesh.specs.inside.LinkTable.{both_row}
use Rattle.mesh.proofs.Laws.LinkRows.Table.{listing-start, listing-turn, listing-end}
use Rattle.mesh.proofs.link.table.list_told.Goals as goal

pub loop-e-init : goal.loop-e-init
loop-e-init c =
    let x = c.args.area.now in
    let e = rw c.table_start-start.ensures at c.split_at_mut-front.ensures in
    rw e.front (listing-start c.args.ab.a c.args.ab.b x.n (take (60 * x.n) x.words.now) (both_row c.split_at_mut-front.result.1.now) (ap length (sym e.front) ∙ e.front_len))

pub loop-e-preserved : goal.loop-e-preserved
loop-e-preserved c =
    let x = c.args.area.now in
    let e = rw c.table_start-start.ensures at c.split_at_mut-front.ensures in
    listing-turn c.args.ab.a c.args.ab.b x.n (take (60 * x.n) x.words.now) (both_row c.split_at_mut-front.result.1.now) (ap length (sym e.front) ∙ e.front_len) c.loop-e.invariant c.loop-e-test.true c.tet_at-t.ensures c.put_told-c.ensures

pub returns : goal.returns
returns c =
    let x = c.args.area.now in
    let e = rw c.table_start-start.ensures at c.split_at_mut-front.ensures in
    let v = rw e.back at c.loop-e.invariant in
    (record { lent = refl; count = refl }, rw e.back (listing-end c.args.ab.a c.args.ab.b x.n x.words.now (both_row (drop (60 * x.n) x.words.now)) x.room v (omega arith)))

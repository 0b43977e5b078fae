-- `mesh::link::interior::interior_by_table` meets its contract, call by call. Assumes nothing.
use Rattle.std.proofs.Common.{◌∙◌, arith}
use Rattle.mesh.proofs.Laws.LinkRows.Table.{left-few, left-kept, left-answer}
use Rattle.mesh.proofs.link.interior.interior_by_table.Goals as goal

pub rows_meet-requires : goal.rows_meet-requires
rows_meet-requires c =
    let x = c.args.area.now in
    let k = c.list_told-c.ensures in
    omega (arith, k.0.count, left-few c.args.ab.a c.args.ab.b x.n c.list_told-c.result x.words.now c.list_told-c.new.area.words.now c.list_told-c.new.area.words.now x.room k.1)

pub returns : goal.returns
returns c =
    let x = c.args.area.now in
    let y = c.list_told-c.new.area in
    let k = c.list_told-c.ensures in
    let s = c.sort_from.new.area in
    let e = rw k.0.count at c.sort_from.ensures in
    let m = rw k.0.count at c.rows_meet.ensures in
    (m ∙ left-answer c.args.ab.a c.args.ab.b x.n c.list_told-c.result x.words.now y.words.now s x.room k.1 e c.requires.0 c.requires.1, record { same = record { lent = k.0.lent; count = k.0.count }; elements = left-kept c.args.ab.a c.args.ab.b x.n c.list_told-c.result x.words.now y.words.now s x.room k.1 e })

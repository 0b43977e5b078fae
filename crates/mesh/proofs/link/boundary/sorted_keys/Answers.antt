-- `mesh::link::boundary::sorted_keys` meets its contract, call by call. Assumes nothing.
use Rattle.mesh.proofs.Laws.LinkRows.Keys.{keys-compared}
use Rattle.mesh.proofs.link.boundary.sorted_keys.Goals as goal

pub returns : goal.returns
returns c =
    let x = c.args.area.now in
    let k = c.counted_keys.ensures in
    let e = rw k.0.count at c.list_triangles.ensures in
    let f = rw k.0.count at c.sort_from.ensures in
    (record { lent = k.0.lent; count = k.0.count }, keys-compared x.n x.words.now c.counted_keys.new.area.words.now c.list_triangles.new.area c.sort_from.new.area x.room k.1.kept e f)

-- `mesh::link::interior::interior_by_all` meets its contract, call by call. Assumes nothing.
use Rattle.std.proofs.Common.{◌∙◌}
use Rattle.mesh.proofs.Laws.LinkRows.Whole.{interior-kept, interior-answer}
use Rattle.mesh.proofs.link.interior.interior_by_all.Goals as goal

pub returns : goal.returns
returns c =
    let x = c.args.area.now in
    let y = c.list_links.new.area in
    let k = c.list_links.ensures in
    let s = c.sort_from.new.area in
    let e = rw k.0.count at c.sort_from.ensures in
    let m = rw k.0.count at c.rows_meet.ensures in
    (m ∙ interior-answer c.args.ab.a c.args.ab.b x.n x.words.now y.words.now s x.room k.1 e c.requires, record { same = record { lent = k.0.lent; count = k.0.count }; elements = interior-kept c.args.ab.a c.args.ab.b x.n x.words.now y.words.now s x.room k.1 e })

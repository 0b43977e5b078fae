-- `mesh::link::boundary::list_boundary` meets its contract, call by call. Assumes nothing.
use Rattle.std.proofs.Common.{arith}
use Rattle.mesh.proofs.Laws.LinkRows.Alone.{boundary-rows, boundary-kept}
use Rattle.mesh.proofs.Laws.LinkRows.Whole.{same-both}
use Rattle.mesh.proofs.link.boundary.list_boundary.Goals as goal

pub returns : goal.returns
returns c =
    let x = c.args.area.now in
    let a = c.args.ab.a in
    let b = c.args.ab.b in
    let k = c.sorted_keys.ensures in
    let l = rw k.0.count at c.list_alone-c.ensures.1 in
    let s = same-both k.0 c.list_alone-c.ensures.0 in
    let e = rw (c.boundary_start-start.ensures, s.count) at c.sort_from.ensures in
    (boundary-rows a b x.n x.words.now c.sorted_keys.new.area.words.now c.list_alone-c.new.area.words.now c.sort_from.new.area x.room k.1 c.list_alone-c.result l e, omega (arith, l.few), record { same = record { lent = s.lent; count = s.count }; elements = boundary-kept a b x.n x.words.now c.sorted_keys.new.area.words.now c.list_alone-c.new.area.words.now c.sort_from.new.area x.room k.1 c.list_alone-c.result l e })

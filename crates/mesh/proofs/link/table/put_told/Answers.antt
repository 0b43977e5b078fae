-- `mesh::link::table::put_told` meets its contract. The invariant: of the first k rows those are written that are to be. Assumes nothing.
use Rattle.std.proofs.Common.{sym, ap, ◌∙◌, arith}
use Rattle.mesh.specs.inside.LinkTable.{none_face, both_row}
use Rattle.mesh.proofs.Laws.LinkRows.Table.{row_by, pick-start, pick-more, pick-less, pick-end, pick-none}
use Rattle.mesh.proofs.link.table.put_told.Goals as goal
use Rattle.mesh.proofs.link.table.put_told.Goals.{then-told_face, else-told_face}

pub returns-then-none_face : goal.returns-then-none_face
returns-then-none_face c = let a = c.args in pick-none a.ab.a a.ab.b a.t a.table.now a.p a.words.now (ap (none_face a.table.now) (sym c.link_face-f.ensures) ∙ sym c.none_face.ensures ∙ c.if-none_face.true)

pub loop-k-init : goal.loop-k-init
loop-k-init c = pick-start c.link_face-f.result c.mark-m.result (both_row c.args.table.now) c.args.p c.args.words.now c.requires

pub loop-k-preserved : goal.loop-k-preserved
loop-k-preserved c =
    let a = c.args in
    let f = c.link_face-f.result in
    let m = c.mark-m.result in
    let p = both_row a.table.now in
    let e = row_by a.table.now c.subset-g.result m ∙ sym c.told_face.ensures in
    elim c.if-told_face.branch [
      | then-told_face w ↦ rw (w.words-is, w.c-is) (pick-more f m p a.p a.words.now c.requires c.loop-k.invariant c.loop-k-test.true c.subset-g.ensures (e ∙ w.if-told_face.true) w.put_row.new.area w.put_row.auto.area w.put_row.ensures)
      | else-told_face w ↦ rw (w.words-is, w.c-is) (pick-less f m p a.p a.words.now c.requires c.loop-k.invariant c.loop-k-test.true c.subset-g.ensures (e ∙ w.if-told_face.false))
    ]

pub returns : goal.returns
returns c =
    let a = c.args in
    let v = rw (c.link_face-f.ensures, c.mark-m.ensures, c.vertices.ensures) at c.loop-k.invariant in
    pick-end a.ab.a a.ab.b a.t (both_row a.table.now) v (omega arith)

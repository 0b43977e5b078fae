-- `mesh::vertex::Points::list_bad` meets its contract. The invariant: the bad elements of the slots passed are gathered. Assumes nothing.
use Rattle.std.proofs.Common.{sym, ◌∙◌}
use Rattle.mesh.specs.Words.{points_in}
use Rattle.mesh.specs.inside.List.{bad_in}
use Rattle.mesh.proofs.Laws.List.Bad.{gather-start, gather-more, gather-less, gather-end}
use Rattle.mesh.proofs.vertex.Points.list_bad.Goals.{then-is_bad_slot, else-is_bad_slot}
use Rattle.mesh.proofs.vertex.Points.list_bad.Goals as goal

pub loop-e-init : goal.loop-e-init
loop-e-init c = let a = c.args in gather-start (bad_in (points_in a.self)) a.n a.area.now c.requires.1

pub loop-e-preserved : goal.loop-e-preserved
loop-e-preserved c =
    let a = c.args in
    elim c.if-is_bad_slot.branch [
      | then-is_bad_slot w ↦ rw (w.area-is, w.k-is) (gather-more (bad_in (points_in a.self)) a.n a.area.now c.requires.1 c.loop-e.invariant c.loop-e-test.true c.tet_at-t.ensures (sym c.is_bad_slot.ensures ∙ w.if-is_bad_slot.true) w.put_row.new.area (rw w.vertices.ensures at w.put_row.ensures))
      | else-is_bad_slot w ↦ rw (w.area-is, w.k-is) (gather-less (bad_in (points_in a.self)) a.n a.area.now c.requires.1 c.loop-e.invariant c.loop-e-test.true c.tet_at-t.ensures (sym c.is_bad_slot.ensures ∙ w.if-is_bad_slot.false))
    ]

pub returns : goal.returns
returns c = let a = c.args in gather-end (bad_in (points_in a.self)) a.n a.area.now c.requires.1 c.loop-e.invariant c.loop-e-test.false

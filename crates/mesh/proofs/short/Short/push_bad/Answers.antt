-- `mesh::short::Short::push_bad` meets its contract. The invariant: the rows of the slots passed are pushed. Assumes nothing.
use Rattle.std.proofs.Common.{sym, ◌∙◌, arith}
use Rattle.mesh.specs.Words.{points_in}
use Rattle.mesh.proofs.Laws.Short.Loops.{slots-start, slots-more, slots-less, slots_end}
use Rattle.mesh.proofs.short.Short.push_bad.Goals.{then-is_bad_slot, else-is_bad_slot}
use Rattle.mesh.proofs.short.Short.push_bad.Goals as goal

pub loop-e-init : goal.loop-e-init
loop-e-init c = slots-start (points_in c.args.self.points) c.args.self.limit c.args.n c.args.area.now c.requires.1

pub overflow_add-k : goal.overflow_add-k
overflow_add-k c = omega (arith, c.requires.0, (slots-more (points_in c.args.self.points) c.args.self.limit c.args.n c.args.area.now c.requires.1 c.loop-e.invariant c.loop-e-test.true c.tet_at-t.ensures (sym c.is_bad_slot.ensures ∙ c.if-is_bad_slot.true) c.push_edges-k.ensures).few, c.loop-e-test.true)

pub loop-e-preserved : goal.loop-e-preserved
loop-e-preserved c =
    elim c.if-is_bad_slot.branch [
      | then-is_bad_slot w ↦ rw (w.area-is, w.k-is) (slots-more (points_in c.args.self.points) c.args.self.limit c.args.n c.args.area.now c.requires.1 c.loop-e.invariant c.loop-e-test.true c.tet_at-t.ensures (sym c.is_bad_slot.ensures ∙ w.if-is_bad_slot.true) w.push_edges-k.ensures)
      | else-is_bad_slot w ↦ rw (w.area-is, w.k-is) (slots-less (points_in c.args.self.points) c.args.self.limit c.args.n c.args.area.now c.requires.1 c.loop-e.invariant c.loop-e-test.true c.tet_at-t.ensures (sym c.is_bad_slot.ensures ∙ w.if-is_bad_slot.false))
    ]

pub returns : goal.returns
returns c = slots_end (points_in c.args.self.points) c.args.self.limit c.args.n c.args.area.now c.requires.1 c.loop-e.invariant c.loop-e-test.false

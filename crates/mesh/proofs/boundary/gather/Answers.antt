-- `mesh::boundary::gather` meets its contract. The invariant is `Gathering`: the single faces found and those left are all.
-- Each turn takes a run. Assumes nothing.
use Rattle.std.proofs.Common.{sym, ap, ◌∙◌, arith}
use Rattle.mesh.specs.inside.Surface.{run_number}
use Rattle.mesh.proofs.Laws.Boundary.Gather.{gathering-start, single-turn, couple-room, couple-turn, bad-end, all_end}
use Rattle.mesh.proofs.boundary.gather.Goals as goal

pub loop-left-init : goal.loop-left-init
loop-left-init c = gathering-start c.args.n c.args.area.now c.requires

pub loop-left-preserved-in-Single : goal.loop-left-preserved-in-Single
loop-left-preserved-in-Single c = single-turn c.loop-left.invariant c.requires c.loop-left-test.true (sym c.run_kind.ensures ∙ ap run_number c.in-Single.is) c.face_at-f.result c.face_at-f.ensures _ (rw c.corners.ensures at c.put_row.ensures)

pub returns-in-SameParity : goal.returns-in-SameParity
returns-in-SameParity c = bad-end c.loop-left.invariant c.requires 17 (sym (ap run_number c.in-SameParity.is) ∙ c.run_kind.ensures) (λ e. omega (arith, e)) (λ e. omega (arith, e))

pub returns-in-Crowded : goal.returns-in-Crowded
returns-in-Crowded c = bad-end c.loop-left.invariant c.requires 16 (sym (ap run_number c.in-Crowded.is) ∙ c.run_kind.ensures) (λ e. omega (arith, e)) (λ e. omega (arith, e))

pub overflow_sub-left-in-Opposed : goal.overflow_sub-left-in-Opposed
overflow_sub-left-in-Opposed c = couple-room c.loop-left.invariant c.requires (sym c.run_kind.ensures ∙ ap run_number c.in-Opposed.is)

pub loop-left-preserved : goal.loop-left-preserved
loop-left-preserved c = couple-turn c.loop-left.invariant c.requires (sym c.run_kind.ensures ∙ ap run_number c.in-Opposed.is)

pub returns : goal.returns
returns c = all_end c.loop-left.invariant c.requires c.loop-left-test.false

-- `mesh::boundary::run_kind` meets its contract: its tests pick the definition's case. Assumes nothing.
use Rattle.std.proofs.Common.{sym, ◌∙◌, inl, inr}
use Rattle.mesh.proofs.Laws.Boundary.Reads.{kind-last, kind-single, kind-many, kind-level, kind-good}
use Rattle.mesh.proofs.boundary.run_kind.Goals as goal
use Rattle.mesh.proofs.boundary.run_kind.Goals.{then-left-lt2-via-then-left-lt2, then-left-lt2-via-else-left-lt2+then-not-eq_rows, else-left-gt2-via-then-left-gt2+else-eq_rows, else-left-gt2-via-else-left-gt2}

pub returns-then-left-lt2 : goal.returns-then-left-lt2
returns-then-left-lt2 c = elim c.then-left-lt2.branch [
  | then-left-lt2-via-then-left-lt2 w ↦ kind-last c.args.area.now c.args.p c.args.left w.if-left-lt2.true
  | then-left-lt2-via-else-left-lt2+then-not-eq_rows w ↦ kind-single c.args.area.now c.args.p c.args.left w.if-left-lt2.false (sym w.eq_rows.ensures ∙ w.if-not-eq_rows.true)
]

pub returns-then-eq_rows : goal.returns-then-eq_rows
returns-then-eq_rows c = kind-many c.args.area.now c.args.p c.args.left c.if-left-gt2.true (sym c.eq_rows.ensures ∙ c.if-not-eq_rows.false) (sym c.eq_rows-then-left-gt2.ensures ∙ c.if-eq_rows.true)

pub returns-then-face_parity : goal.returns-then-face_parity
returns-then-face_parity c = kind-level c.args.area.now c.args.p c.args.left c.if-left-lt2.false (sym c.eq_rows.ensures ∙ c.if-not-eq_rows.false) (elim c.else-left-gt2.branch [
  | else-left-gt2-via-then-left-gt2+else-eq_rows w ↦ inr (w.if-left-gt2.true, sym w.eq_rows-then-left-gt2.ensures ∙ w.if-eq_rows.false)
  | else-left-gt2-via-else-left-gt2 w ↦ inl w.if-left-gt2.false
]) c.face_at-f.result c.face_at-g.result c.face_at-f.ensures c.face_at-g.ensures _ _ c.face_parity.ensures c.face_parity-2.ensures c.if-face_parity.true

pub returns-else-face_parity : goal.returns-else-face_parity
returns-else-face_parity c = kind-good c.args.area.now c.args.p c.args.left c.if-left-lt2.false (sym c.eq_rows.ensures ∙ c.if-not-eq_rows.false) (elim c.else-left-gt2.branch [
  | else-left-gt2-via-then-left-gt2+else-eq_rows w ↦ inr (w.if-left-gt2.true, sym w.eq_rows-then-left-gt2.ensures ∙ w.if-eq_rows.false)
  | else-left-gt2-via-else-left-gt2 w ↦ inl w.if-left-gt2.false
]) c.face_at-f.result c.face_at-g.result c.face_at-f.ensures c.face_at-g.ensures _ _ c.face_parity.ensures c.face_parity-2.ensures c.if-face_parity.false

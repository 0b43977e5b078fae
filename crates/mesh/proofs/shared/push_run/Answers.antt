-- `mesh::shared::push_run` meets its contract: one row where two elements have the face and one is bad. Assumes nothing.
use Rattle.std.proofs.Common.{refl, arith}
use Rattle.mesh.proofs.Laws.Shared.Scan.{run-other, run-good, run-bad}
use Rattle.mesh.proofs.shared.push_run.Goals.{then-k-ne2-via-then-k-ne2, then-k-ne2-via-else-k-ne2+then-none_bad}
use Rattle.mesh.proofs.shared.push_run.Goals as goal

pub returns-then-k-ne2 : goal.returns-then-k-ne2
returns-then-k-ne2 c =
    elim c.then-k-ne2.branch [
      | then-k-ne2-via-then-k-ne2 w ↦ (run-other c.args.area.now c.args.out.now c.args.p c.args.k c.args.q w.if-k-ne2.true, omega arith)
      | then-k-ne2-via-else-k-ne2+then-none_bad w ↦ (run-good c.args.area.now c.args.out.now c.args.p c.args.k c.args.q w.if-k-ne2.false w.none_bad.result w.none_bad.ensures w.if-none_bad.true, omega arith)
    ]

pub returns : goal.returns
returns c = (run-bad c.args.area.now c.args.out.now c.args.p c.args.k c.args.q c.if-k-ne2.false c.none_bad.result c.none_bad.ensures c.if-none_bad.false (omega (arith, c.requires.1)) _ _ _ _ _ refl refl refl refl refl c.put_row.new.area c.put_row.ensures, omega arith)

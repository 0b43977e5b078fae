-- `matrix::Matrix::solved` meets its contract. The invariant: the solution from column k on is the whole. Assumes nothing.
use mathlib.Core.Path.{refl, sym, ap, ◌∙◌}
use Rattle.std.proofs.Common.{not}
use Rattle.std.specs.Prelude.{Some}
use Prim.Native.Nat.{ℕ}
use native.Mathlib.Omega.{arith}
use Rattle.repair.specs.Project.{solved}
use Rattle.repair.specs.inside.project.Solve.{window}
use Rattle.repair.proofs.Laws.Project.Window.{solved-end}
use Rattle.repair.proofs.Laws.Project.Arrays.{swap-exchanged}
use Rattle.repair.proofs.Laws.Project.Columns.{column-turn, column-fail}
use native.Mathlib.Nat.{sub-zero}
use borrow.Author.Rules.{rules}
use Rattle.repair.proofs.project.matrix.Matrix.solved.Goals as goal

pub loop-k-init : goal.loop-k-init
loop-k-init c = let z = c.args.self in (omega arith, refl, ap (λ (t : ℕ). solved 0 t (window z.size z.rows)) (sub-zero z.size))

pub returns-then-not-is_pivot : goal.returns-then-not-is_pivot
returns-then-not-is_pivot c =
    let z = c.args.self in
    let l = c.loop-k in
    let b = rw l.invariant.1 at c.pivot-best.ensures in
    sym (column-fail l.m.shaped z.size z.few l.k c.pivot-best.result c.loop-k-test.true b (c.swap.ensures.after ∙ swap-exchanged l.m.rows l.k c.pivot-best.result (omega (arith, l.m.shaped.rows, z.few)) (omega (arith, l.m.shaped.rows, z.few, b.0)))
    c.is_pivot.ensures (ap not c.if-not-is_pivot.true) l.invariant.2)

pub loop-k-preserved : goal.loop-k-preserved
loop-k-preserved c =
    let z = c.args.self in
    let l = c.loop-k in
    let b = rw l.invariant.1 at c.pivot-best.ensures in
    let q = c.solve_column.ensures in (
      search rules,
      q.0 ∙ l.invariant.1,
      column-turn l.m.shaped z.size z.few l.k c.pivot-best.result c.loop-k-test.true b (c.swap.ensures.after ∙ swap-exchanged l.m.rows l.k c.pivot-best.result (omega (arith, l.m.shaped.rows, z.few)) (omega (arith, l.m.shaped.rows, z.few, b.0)))
          c.is_pivot.ensures (ap not c.if-not-is_pivot.false) (rw l.invariant.1 at (rw q.0 at q.1)) l.invariant.2,
    )

pub returns : goal.returns
returns c =
    let z = c.args.self in
    let l = c.loop-k in
    (l.invariant.1, sym (solved-end z.size l.k (window z.size l.m.rows) c.loop-k-test.false l.invariant.2) ∙ ap (λ (j : ℕ). Some (window j l.m.rows)) (sym l.invariant.1))

-- `matrix::Matrix::clear` meets its contract. The invariant: the rows before i are cleared. Assumes nothing.
use mathlib.Core.Path.{sym, ap, ◌∙◌}
use Prim.Native.Nat.{ℕ}
use Rattle.repair.specs.inside.project.Solve.{window}
use Rattle.repair.proofs.Laws.Project.Arrays.{clear_next, clear-last}
use borrow.Author.Rules.{rules}
use Rattle.repair.proofs.project.matrix.Matrix.clear.Goals as goal

pub loop-i-preserved : goal.loop-i-preserved
loop-i-preserved c = let z = c.args.self.now in let s = c.loop-i.self in
    (search rules, c.loop-i.invariant.1, clear_next s.shaped z.size z.few c.args.k c.args.pivot c.loop-i.i c.cleared.result c.loop-i-test.true (rw c.loop-i.invariant.1 at c.cleared.ensures) ∙ c.loop-i.invariant.2)

pub returns : goal.returns
returns c = let z = c.args.self.now in let s = c.loop-i.self in
    (c.loop-i.invariant.1, ap (λ (j : ℕ). window j s.rows) c.loop-i.invariant.1 ∙ sym (clear-last s.shaped z.size z.few c.args.k c.args.pivot c.loop-i.i c.loop-i-test.false) ∙ c.loop-i.invariant.2)

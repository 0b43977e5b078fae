-- `matrix::Matrix::pivot` meets its contract. The invariant: the pivot of the rows from i on and the best so far is that of all. Assumes nothing.
use mathlib.Core.Path.{◌≡◌, sym, ap, ◌∙◌, subst}
use mathlib.Core.Bool.{Bool, cond}
use Prim.Native.Nat.{◌<◌, ℕ}
use Rattle.repair.specs.inside.project.Solve.{window}
use Rattle.repair.proofs.Laws.Project.Elimination.{pivot-end}
use Rattle.repair.proofs.Laws.Project.Arrays.{cond_below, pivot-next}
use borrow.Author.Rules.{rules}
use Rattle.repair.proofs.project.matrix.Matrix.pivot.Goals.{then-not-is_smaller, else-not-is_smaller}
use Rattle.repair.proofs.project.matrix.Matrix.pivot.Goals as goal

pub loop-i-preserved : goal.loop-i-preserved
loop-i-preserved c =
    let e : c.if-not-is_smaller.best ≡ cond c.is_smaller.result c.loop-i.best c.loop-i.i = elim c.if-not-is_smaller.branch [
      | then-not-is_smaller w ↦ w.best-is ∙ ap (λ (b : Bool). cond b c.loop-i.best c.loop-i.i) (sym w.if-not-is_smaller.true)
      | else-not-is_smaller w ↦ w.best-is ∙ ap (λ (b : Bool). cond b c.loop-i.best c.loop-i.i) (sym w.if-not-is_smaller.false)
    ] in
    (subst (λ (r : ℕ). r < c.args.self.now.size) (sym e) (cond_below c.is_smaller.result c.loop-i.best c.loop-i.i c.args.self.now.size c.loop-i.invariant.0 c.loop-i-test.true), search rules, pivot-next c.args.self.now.shaped c.args.self.now.size c.args.self.now.few c.args.k c.loop-i.best c.loop-i.i c.requires c.loop-i.invariant.0 c.loop-i-test.true c.is_smaller.ensures e ∙ c.loop-i.invariant.2)

pub returns : goal.returns
returns c = (c.loop-i.invariant.0, sym (pivot-end (window c.args.self.now.size c.args.self.now.rows) c.args.k c.loop-i.best c.loop-i.i c.args.self.now.size c.loop-i-test.false) ∙ c.loop-i.invariant.2)

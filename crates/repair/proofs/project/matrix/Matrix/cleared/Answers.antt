-- `matrix::Matrix::cleared` meets its contract. The invariant: what is left from column j on is the whole. Assumes nothing.
use mathlib.Core.Path.{◌≡◌, sym, ap, ◌∙◌}
use Prim.Native.Nat.{◌+◌}
use native.Mathlib.Omega.{arith}
use mathlib.Core.List.{[]}
use lib.ListN.{length, take, get_or}
use lib.Ieee.{Float, nan}
use lib.Seq.{get_or-take}
use borrow.Author.Tests.{ne_eqb}
use Rattle.geometry.specs.Float.{zero64}
use Rattle.mesh.proofs.Laws.Parts.{get_d_any}
use Rattle.repair.specs.Project.{less_from}
use Rattle.repair.proofs.Laws.Project.Elimination.{less-turn, less-end}
use borrow.Author.Rules.{rules}
use Rattle.repair.proofs.project.matrix.Matrix.cleared.Goals as goal

pub loop-j-preserved : goal.loop-j-preserved
loop-j-preserved c = let e : length c.loop-j.row ≡ 9 = c.loop-j.invariant.1 in let f = c.args.self.now.few in let g : length c.args.pivot ≡ 9 = c.well_formed.1.0.1.0.1 in
    (search rules, search rules, less-turn c.args.self.now.size _ nan c.loop-j.row c.args.pivot c.loop-j.j (omega arith) (omega arith) (omega arith) ∙ c.loop-j.invariant.2)

pub returns : goal.returns
returns c =
    let s = c.args.self.now in
    let k = c.args.k in
    let r = get_or s.rows c.args.i [] in
    let e : length c.loop-j.row ≡ 9 = c.loop-j.invariant.1 in
    let f = s.few in
    let g : length r ≡ 9 = s.shaped.columns c.args.i (omega (arith, f, c.requires.1)) in
    rw (ne_eqb c.args.i k c.if-i-k.false)
    (sym (less-end s.size (get_or r k nan) c.loop-j.row c.args.pivot c.loop-j.j (omega arith) (omega arith)) ∙ c.loop-j.invariant.2
    ∙ ap (λ (x : Float). less_from k x (take (s.size + 1) r) (take (s.size + 1) c.args.pivot)) (get_d_any r k nan zero64 (omega (arith, f, c.requires.0)) ∙ sym (get_or-take (s.size + 1) r k zero64 (omega (arith, c.requires.0)))))

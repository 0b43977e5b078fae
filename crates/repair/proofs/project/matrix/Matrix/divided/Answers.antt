-- `matrix::Matrix::divided` meets its contract. The invariant: what is left from column j on is the whole. Assumes nothing.
use mathlib.Core.Path.{◌≡◌, sym, ap, ◌∙◌}
use Prim.Native.Nat.{◌+◌}
use native.Mathlib.Omega.{arith}
use mathlib.Core.List.{[]}
use lib.ListN.{length, take, get_or}
use lib.Ieee.{Float, nan}
use Rattle.repair.specs.Project.{divide_from}
use Rattle.repair.proofs.Laws.Project.Arrays.{corner-entry}
use Rattle.repair.proofs.Laws.Project.Elimination.{divide-turn, divide-end}
use borrow.Author.Rules.{rules}
use Rattle.repair.proofs.project.matrix.Matrix.divided.Goals as goal

pub loop-j-preserved : goal.loop-j-preserved
loop-j-preserved c = let e : length c.loop-j.row ≡ 9 = c.loop-j.invariant.1 in let f = c.args.self.now.few in
    (search rules, search rules, divide-turn c.args.self.now.size _ nan c.loop-j.row c.loop-j.j (omega arith) (omega arith) ∙ c.loop-j.invariant.2)

pub returns : goal.returns
returns c =
    let s = c.args.self.now in
    let e : length c.loop-j.row ≡ 9 = c.loop-j.invariant.1 in
    let f = s.few in
    sym (divide-end s.size (get_or (get_or s.rows c.args.k []) c.args.k nan) c.loop-j.row c.loop-j.j (omega arith) (omega arith)) ∙ c.loop-j.invariant.2
    ∙ ap (λ (x : Float). divide_from c.args.k x (take (s.size + 1) (get_or s.rows c.args.k []))) (corner-entry s.shaped s.size f c.args.k c.args.k c.requires (omega arith))

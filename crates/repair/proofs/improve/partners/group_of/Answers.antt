-- `repair::improve::partners::group_of` meets its contract: the run at the first row that reaches the rank is the group. Assumes nothing.
use mathlib.Core.Path.{ap, ◌∙◌}
use Prim.Native.Nat.{ℕ}
use Rattle.mesh.specs.inside.Rows.{run_length}
use Rattle.repair.proofs.Laws.Pairs.Rows.{group-is}
use Rattle.repair.proofs.improve.partners.group_of.Goals as goal

pub returns : goal.returns
returns c = let a = c.args in let e = c.group_start-first.ensures in
    group-is c.requires.0 a.v c.requires.1 (record { first = c.group_start-first.result; size = c.run_length.result }) e (c.run_length.ensures ∙ ap (λ (i : ℕ). run_length i a.given.now.index.vertices 7 6 a.work.now) e)

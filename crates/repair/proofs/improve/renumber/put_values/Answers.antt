-- `repair::improve::renumber::put_values` meets its contract. The invariant: the first j values are written. Assumes nothing.
use mathlib.Core.Path.{refl, sym, ap, ◌∙◌}
use mathlib.Core.List.{append-nil}
use Rattle.std.proofs.Common.{◌≡◌, ◌+◌, take, arith}
use Rattle.repair.proofs.Laws.Finish.Moved.{from-turn}
use Rattle.repair.proofs.improve.renumber.put_values.Goals as goal

pub loop-j-init : goal.loop-j-init
loop-j-init g c = let a = c.args in let e : a.i + 0 ≡ a.i = omega arith in (refl, ap (λ m. take m a.list.now) e ∙ sym (append-nil (take a.i a.list.now)))

pub loop-j-preserved : goal.loop-j-preserved
loop-j-preserved g c =
    let a = c.args in
    let l = c.loop-j in
    (c.put.auto.s ∙ l.invariant.0, from-turn g.T.Zero.zero a.values.now a.i a.k g.row.W l.j a.list.now l.list c.loop-j-test.true (omega (arith, c.requires.2, l.invariant.0)) l.invariant.1 c.at.ensures c.put.ensures)

pub returns : goal.returns
returns g c =
    let a = c.args in
    let l = c.loop-j in
    let e : l.j ≡ g.row.W = omega (arith, c.loop-j-test.false, l.auto.j-end) in
    (rw e at l.invariant.1)

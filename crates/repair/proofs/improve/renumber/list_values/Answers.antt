-- `repair::improve::renumber::list_values` meets its contract. The invariant: the values of the first i vertices are listed. Assumes nothing.
use Rattle.repair.proofs.Laws.Finish.Moved.{gathered-start, gathered-turn, gathered-end}
use Rattle.repair.proofs.improve.renumber.list_values.Goals as goal

pub loop-i-init : goal.loop-i-init
loop-i-init g c = gathered-start g.T.Zero.zero c.args.values.now g.row.W c.args.vertices.now c.args.list.now

pub loop-i-preserved : goal.loop-i-preserved
loop-i-preserved g c =
    let a = c.args in
    gathered-turn g.T.Zero.zero a.values.now c.loop-i.invariant c.loop-i-test.true _ c.put_values.auto.list c.put_values.ensures

pub returns : goal.returns
returns g c = gathered-end g.T.Zero.zero c.args.values.now c.loop-i.invariant c.loop-i-test.false

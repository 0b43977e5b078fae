-- `repair::flip::three_to_two::others` meets its contract. Assumes nothing.
use native.Mathlib.Omega.{arith}
use Rattle.repair.proofs.Laws.Flip.Others.{elements-turn, elements-end, others-listed}
use Rattle.repair.proofs.flip.three_to_two.others.Goals as goal

pub loop-t-preserved : goal.loop-t-preserved
loop-t-preserved c = elements-turn c.args.e (omega arith) c.loop-t.invariant _ c.loop-t-test.true _ _ c.put_others-n.ensures.puts c.put_others-n.ensures.upper_bound

pub returns : goal.returns
returns c =
    let few = c.loop-t.invariant.few in
    others-listed c.args.e c.args.old.now c.requires.0 c.requires.1 (omega arith) (elements-end c.args.e (omega arith) c.loop-t.invariant c.loop-t-test.false) c.sort_rows.ensures c.unique_rows.ensures.0 c.unique_rows.ensures.1

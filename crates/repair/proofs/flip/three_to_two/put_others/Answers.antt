-- `repair::flip::three_to_two::put_others` meets its contract. Assumes nothing.
use native.Mathlib.Omega.{arith}
use Rattle.repair.proofs.Laws.Flip.Others.{vertices-turn, vertices-end}
use Rattle.repair.proofs.flip.three_to_two.put_others.Goals as goal

pub loop-v-preserved : goal.loop-v-preserved
loop-v-preserved c = vertices-turn c.args.e c.requires c.loop-v.invariant c.loop-v-test.true _ _ c.put_other-n.ensures.puts c.put_other-n.ensures.upper_bound

pub returns-clause-puts : goal.returns-clause-puts
returns-clause-puts c = (vertices-end c.args.e c.requires c.loop-v.invariant c.loop-v-test.false (omega arith)).0

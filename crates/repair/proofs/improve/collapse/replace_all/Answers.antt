-- `repair::improve::collapse::replace_all` meets its contract. The invariant: the pairs from i on went. Assumes nothing.
use mathlib.Core.Path.{refl, ◌∙◌}
use native.Mathlib.Omega.{arith}
use Rattle.repair.proofs.Laws.Replace.Turns.{left-start, left-turn, left-done}
use Rattle.repair.proofs.improve.collapse.replace_all.Goals as goal

pub loop-i-init : goal.loop-i-init
loop-i-init c = (omega arith, refl, left-start c.args.x c.args.x.room c.args.k c.args.work.now)

pub loop-i-preserved : goal.loop-i-preserved
loop-i-preserved c = (omega arith, c.replace_one.auto.work ∙ c.loop-i.invariant.1, left-turn c.args.x c.args.x.room c.args.k c.args.work.now c.loop-i.work c.loop-i.i c.requires.1 c.loop-i.invariant.2 c.loop-i-test.true c.loop-i.invariant.0 _ _ _ (rw c.pairs_at-p.ensures at c.pair_from-e.ensures.0) (rw c.pairs_at-p.ensures at c.pair_from-e.ensures.1) c.replace_one.ensures)

pub returns : goal.returns
returns c = left-done c.args.x c.args.x.room c.args.k c.args.work.now c.loop-i.work c.loop-i.i c.requires.1 c.loop-i.invariant.2 c.loop-i-test.false

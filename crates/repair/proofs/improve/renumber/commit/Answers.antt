-- `repair::improve::renumber::commit` meets its contract: what each call leaves, put together. Assumes nothing.
use Rattle.repair.specs.inside.improve.Renumber.{state_in}
use Rattle.repair.proofs.Laws.Finish.Committed.{all_moved}
use Rattle.repair.proofs.improve.renumber.commit.Goals as goal

pub returns-clause-moved : goal.returns-clause-moved
returns-clause-moved c = let a = c.args in
    all_moved a.sizes a.nv a.area.now _ (state_in a.sizes a.mesh.now) c.requires c.split_at_mut-front.ensures.front c.move_values.ensures c.move_values-2.ensures c.move_values-3.ensures c.copy_part.ensures c.copy_part-2.ensures

-- `mesh::shared::push_runs` meets its contract. The invariant: what the runs passed give is pushed. Assumes nothing.
use Rattle.std.proofs.Common.{arith}
use Rattle.mesh.proofs.Laws.Shared.Scan.{running-start, running-few, running-room, running-turn, running-end}
use Rattle.mesh.proofs.shared.push_runs.Goals as goal

pub loop-run-init : goal.loop-run-init
loop-run-init c =
    let e = c.split_at_mut-front.ensures in
    running-start c.args.n c.args.area.now e.front e.back (rw c.into_iter-run-iterator.ensures.into_iter_gives c.new-run-items.ensures)

pub overflow_mul-count : goal.overflow_mul-count
overflow_mul-count c = omega (arith, c.requires.0, running-few c.args.n c.args.area.now c.requires.1 c.loop-run.invariant c.in-Some.run' c.next.new.self c.in-Some.ensures.steps)

pub push_run-count-requires : goal.push_run-count-requires
push_run-count-requires c = rw c.split_at_mut-front.ensures.front (running-room c.args.n c.args.area.now c.requires.1 c.loop-run.invariant c.in-Some.run' c.next.new.self c.in-Some.ensures.steps)

pub overflow_add-count : goal.overflow_add-count
overflow_add-count c = omega (arith, c.requires.0, c.push_run-count.ensures.1, running-few c.args.n c.args.area.now c.requires.1 c.loop-run.invariant c.in-Some.run' c.next.new.self c.in-Some.ensures.steps)

pub loop-run-preserved : goal.loop-run-preserved
loop-run-preserved c =
    running-turn c.args.n c.args.area.now c.requires.1 c.loop-run.invariant c.in-Some.run' c.next.new.self c.in-Some.ensures.steps
    (rw c.split_at_mut-front.ensures.front at c.push_run-count.ensures.0)

pub returns : goal.returns
returns c = rw c.split_at_mut-front.ensures.front (running-end c.args.n c.args.area.now c.requires.1 c.loop-run.invariant c.next.new.self c.in-None.ensures.steps)

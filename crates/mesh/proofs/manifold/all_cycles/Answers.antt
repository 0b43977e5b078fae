-- `mesh::manifold::all_cycles` meets its contract. The invariant: the runs left decide, and no mark is above the last. Assumes nothing.
use Rattle.std.proofs.Common.{refl, arith}
use Rattle.mesh.proofs.Laws.Manifold.Cycles.{cycling-start, cycling-few, cycling-kept, run-ready, cycling-turn, cycling-fail, cycling-end}
use Rattle.mesh.proofs.manifold.all_cycles.Goals as goal

pub loop-run-init : goal.loop-run-init
loop-run-init c =
    let e = c.split_at_mut-links.ensures in
    cycling-start c.args.m c.args.area.now c.requires e.front e.back (rw c.into_iter-run-iterator.ensures.into_iter_gives c.new-run-items.ensures)

pub overflow_add-mark : goal.overflow_add-mark
overflow_add-mark c = omega (arith, c.requires.few, cycling-few c.args.m c.args.area.now c.requires c.loop-run.invariant c.in-Some.run' c.next.new.self c.in-Some.ensures.steps)

pub one_cycle-requires : goal.one_cycle-requires
one_cycle-requires c = rw c.split_at_mut-links.ensures.front (run-ready c.args.m c.args.area.now c.requires c.loop-run.invariant c.in-Some.run' c.next.new.self c.in-Some.ensures.steps)

pub returns-then-not-one_cycle : goal.returns-then-not-one_cycle
returns-then-not-one_cycle c =
    let e = c.split_at_mut-links.ensures.front in
    let a = c.args in
    (cycling-fail a.m a.area.now c.requires c.loop-run.invariant c.in-Some.run' c.next.new.self c.in-Some.ensures.steps (rw e at c.one_cycle.ensures.0) c.if-not-one_cycle.true, rw e (cycling-kept a.m a.area.now c.requires c.loop-run.invariant _ c.one_cycle.ensures.1))

pub loop-run-preserved : goal.loop-run-preserved
loop-run-preserved c =
    let a = c.args in
    cycling-turn a.m a.area.now c.requires c.loop-run.invariant c.in-Some.run' c.next.new.self c.in-Some.ensures.steps (rw c.split_at_mut-links.ensures.front at c.one_cycle.ensures.0) c.if-not-one_cycle.false c.one_cycle.ensures.1 c.one_cycle.ensures.2

pub returns : goal.returns
returns c =
    let a = c.args in
    (cycling-end a.m a.area.now c.requires c.loop-run.invariant c.next.new.self c.in-None.ensures.steps, rw c.split_at_mut-links.ensures.front (cycling-kept a.m a.area.now c.requires c.loop-run.invariant _ refl))

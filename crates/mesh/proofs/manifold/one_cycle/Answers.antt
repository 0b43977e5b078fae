-- `mesh::manifold::one_cycle` meets its contract. The invariant: what is marked, and the rounds that are left from there. Assumes nothing.
use Rattle.std.proofs.Common.{◌≡◌, ◌+◌, ◌-◌, refl, arith}
use Rattle.mesh.proofs.Laws.Manifold.Growth.{reach-turn}
use Rattle.mesh.proofs.Laws.Manifold.Cycles.{rounds-start, rounds-run, rounds-stop, rounds-end}
use Rattle.mesh.proofs.manifold.one_cycle.Goals as goal

pub loop-round-init : goal.loop-round-init
loop-round-init c = let e : c.args.k ≡ c.args.k - 0 = omega arith in rw (← e) (rounds-start c.requires.0 c.requires.1 c.at-start.ensures c.args.mark c.args.marks.now refl c.put.ensures c.requires.2)

pub grow-added-requires : goal.grow-added-requires
grow-added-requires c = rounds-run c.requires.0 c.requires.1 c.at-start.ensures c.loop-round.invariant

pub returns-then-added-eq0 : goal.returns-then-added-eq0
returns-then-added-eq0 c = rounds-stop c.requires.0 c.requires.1 c.at-start.ensures c.loop-round.invariant c.grow-added.ensures.0 c.if-added-eq0.true

pub loop-round-preserved : goal.loop-round-preserved
loop-round-preserved c =
    let a = c.args in
    let l = c.loop-round in
    let e : a.k - l._round - 1 ≡ a.k - (l._round + 1) = omega arith in
    rw (← e) (reach-turn l.invariant (omega arith) c.grow-added.ensures.0 c.grow-added.ensures.1)

pub returns : goal.returns
returns c = rounds-end c.requires.0 c.requires.1 c.at-start.ensures c.loop-round.invariant (omega arith)

-- `mesh::manifold::grow` meets its contract. The invariant: the marks are grown by the pairs passed. Assumes nothing.
use Rattle.std.proofs.Common.{arith}
use Rattle.mesh.proofs.Laws.Manifold.Growth.{grown-none}
use Rattle.mesh.proofs.Laws.Manifold.Cycles.{pair-known, grow-turn, grow-end}
use Rattle.mesh.proofs.manifold.grow.Goals as goal

pub loop-i-init : goal.loop-i-init
loop-i-init c = let a = c.args in (omega arith, omega arith, grown-none a.mark a.marks.now)

pub spread-added-requires : goal.spread-added-requires
spread-added-requires c = pair-known (c.requires) c.loop-i.invariant.2 c.loop-i-test.true c.at-x.ensures c.at-y.ensures

pub loop-i-preserved : goal.loop-i-preserved
loop-i-preserved c = (omega arith, omega (arith, c.spread-added.ensures.1), grow-turn (c.requires) c.loop-i.invariant.2 c.loop-i-test.true c.at-x.ensures c.at-y.ensures c.spread-added.ensures.0)

pub returns : goal.returns
returns c = let a = c.args in (grow-end a.p a.k a.links.now c.loop-i.i c.loop-i-test.false c.loop-i.invariant.2, omega arith)

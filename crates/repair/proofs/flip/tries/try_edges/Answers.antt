-- `repair::flip::tries::try_edges` meets its contract. The invariant: the edges so far are tried, and the rows are kept. Assumes nothing.
use Rattle.repair.proofs.Laws.Flip.Tries.{edges-turn, edges-end}
use Rattle.repair.proofs.flip.tries.try_edges.Goals as goal

pub loop-i-preserved : goal.loop-i-preserved
loop-i-preserved c = edges-turn c.requires.0 c.requires.1 c.requires.2 c.loop-i.invariant c.loop-i-test.true _ c.edges_at.ensures _ c.pair_from-e.ensures.0 c.pair_from-e.ensures.1 _ _ c.try_edge-r.auto.work c.try_edge-r.ensures.counts c.try_edge-r.ensures.by_index

pub returns-clause-went : goal.returns-clause-went
returns-clause-went c =
    λ es s a b d e. edges-end c.requires.0 c.requires.1 c.requires.2 c.loop-i.invariant c.loop-i-test.false es s (record { holds = a; rows = b; listed = d; bound = e })

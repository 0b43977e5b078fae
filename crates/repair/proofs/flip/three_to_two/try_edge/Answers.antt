-- `repair::flip::three_to_two::try_edge` meets its contract: three returns that change nothing, and the replacement. Assumes nothing.
use Rattle.mesh.specs.Words.{points_in}
use Rattle.mesh.specs.Measure.{measure}
use Rattle.repair.proofs.Laws.Flip.TryEdge.{edge_few, edge-others, edge-taken, edge-flipped}
use Rattle.repair.proofs.flip.three_to_two.try_edge.Goals as goal

pub returns-then-k-ne3-clause-by_index : goal.returns-then-k-ne3-clause-by_index
returns-then-k-ne3-clause-by_index c =
    λ n s h l b. edge_few (measure (points_in c.args.given.now.points)) c.args.e h l b c.list_both-k.ensures c.if-k-ne3.true

pub returns-then-m-ne3-clause-by_index : goal.returns-then-m-ne3-clause-by_index
returns-then-m-ne3-clause-by_index c =
    λ n s h l b. edge-others (measure (points_in c.args.given.now.points)) c.args.e h l b c.list_both-k.ensures c.if-k-ne3.false c.triple_from-i.ensures c.elements_in-old.ensures c.list_others-m.ensures c.if-m-ne3.true

pub returns-then-any_live-clause-by_index : goal.returns-then-any_live-clause-by_index
returns-then-any_live-clause-by_index c =
    λ n s h l b. edge-taken (measure (points_in c.args.given.now.points)) c.args.e h l b c.list_both-k.ensures c.if-k-ne3.false c.triple_from-i.ensures c.elements_in-old.ensures c.list_others-m.ensures c.if-m-ne3.false c.triple_from-f.ensures c.any_live.ensures c.if-any_live.true

pub returns-clause-by_index : goal.returns-clause-by_index
returns-clause-by_index c =
    λ n s h l b. edge-flipped (measure (points_in c.args.given.now.points)) c.args.e h l b c.list_both-k.ensures c.if-k-ne3.false c.triple_from-i.ensures c.elements_in-old.ensures c.list_others-m.ensures c.if-m-ne3.false c.triple_from-f.ensures c.any_live.ensures c.if-any_live.false c.candidates-new.ensures (c.replace.ensures.by_index n s)

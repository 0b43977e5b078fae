-- `repair::flip::tries::try_faces` meets its contract. The invariant: the faces so far are tried, and the rows are kept. Assumes nothing.
use Rattle.repair.proofs.Laws.Flip.Tries.{faces-turn, faces-end}
use Rattle.repair.proofs.flip.tries.try_faces.Goals as goal

pub loop-i-preserved : goal.loop-i-preserved
loop-i-preserved c = faces-turn c.requires.0 c.requires.1 c.loop-i.invariant c.loop-i-test.true _ c.faces_at.ensures _ _ _ c.triple_from-f.ensures c.at-a.ensures c.at-b.ensures _ _ c.try_face-t.auto.work c.try_face-t.ensures.counts c.try_face-t.ensures.by_index

pub returns-clause-went : goal.returns-clause-went
returns-clause-went c =
    λ ts fs s a b d e f g. faces-end c.requires.0 c.requires.1 c.loop-i.invariant c.loop-i-test.false ts fs s (record { holds = a; many = b; rows = d; listed = e; start = f; bound = g })

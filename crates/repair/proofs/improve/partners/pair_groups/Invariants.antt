-- `repair::improve::partners::pair_groups` meets its contract. The invariant is `Pairing`: the members done have partners of their own, written as pairs.
-- Assumes nothing.
use Rattle.mesh.specs.Words.{points_in}
use Rattle.repair.specs.inside.improve.Partners.{only}
use Rattle.repair.proofs.Laws.Pairs.Pairing.{Pairing}
use Rattle.repair.proofs.improve.partners.pair_groups.Given as goal

abbrev pub invariant-loop-i : goal.invariant-loop-i
invariant-loop-i l = Pairing l.given.options (only (points_in l.given.parameters)) l.given.index l.initial.work l.fn.f l.g l.work l.i l.k

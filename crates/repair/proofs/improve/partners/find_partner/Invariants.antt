-- `repair::improve::partners::find_partner` meets its contract. The invariant is `Seeking`: the partner is among the members left. Assumes nothing.
use Rattle.mesh.specs.Words.{points_in}
use Rattle.repair.specs.inside.improve.Partners.{only}
use Rattle.repair.proofs.Laws.Pairs.Walks.{Seeking}
use Rattle.repair.proofs.improve.partners.find_partner.Given as goal

abbrev pub invariant-loop-i : goal.invariant-loop-i
invariant-loop-i l = Seeking l.given.options (only (points_in l.given.parameters)) l.given.index l.work l.v l.fn.g l.i

-- `repair::improve::gain::tally_images` meets its contract. Assumes nothing.
use Rattle.mesh.specs.Words.{points_in}
use Rattle.mesh.specs.Measure.{measure}
use Rattle.repair.specs.inside.Layout.{pairs_in}
use Rattle.repair.proofs.Laws.Gain.Judging.{Judging}
use Rattle.repair.proofs.improve.gain.tally_images.Given as goal

abbrev pub invariant-loop-i : goal.invariant-loop-i
invariant-loop-i l = Judging (measure (points_in l.given.points)) l.limit (pairs_in l.given.index l.k l.work) l.work l.p l.n l.r l.i

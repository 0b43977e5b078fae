-- `candidates::mean_of` meets its contract. The invariant: the sums so far and the points left give the sums of all. Assumes nothing.
use Rattle.mesh.specs.Words.{point_at, points_in}
use Rattle.repair.proofs.Laws.Candidate.Mean.{Summed}
use Rattle.repair.proofs.smooth.candidates.mean_of.Given as goal

abbrev pub invariant-loop-v : goal.invariant-loop-v
invariant-loop-v l = Summed (point_at (points_in l.parameters)) l.near l.v-index l.s

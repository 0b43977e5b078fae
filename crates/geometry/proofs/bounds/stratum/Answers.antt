-- `bounds::stratum` meets its contract: the cap is below 2 ^ 38. Assumes nothing.
use Rattle.std.proofs.Common.{arith}
use Rattle.geometry.specs.Bounds.{stratum}
use Rattle.geometry.proofs.Laws.Box.Cap.{cap-lt}
use Rattle.geometry.proofs.bounds.stratum.Goals as goal

pub overflow_add-result : goal.overflow_add-result
overflow_add-result c = omega (arith, cap-lt c.args.p c.args.b)

pub returns : goal.returns
unfolding stratum
returns c = rw (c.from.ensures, c.cap.ensures)

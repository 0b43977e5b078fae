-- `bounds::periodic_in` meets its contract: from 32 on no bit is set. Assumes nothing.
use Rattle.std.proofs.Common.{rules}
use Rattle.geometry.proofs.Laws.Box.Periodic.{none_above}
use Rattle.geometry.proofs.bounds.periodic_in.Goals as goal

pub returns-else-axis-lt32 : goal.returns-else-axis-lt32
returns-else-axis-lt32 c = rw (none_above c.args.periodic c.args.axis (search rules) c.if-axis-lt32.false) (search rules)

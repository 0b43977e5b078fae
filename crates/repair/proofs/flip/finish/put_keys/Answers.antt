-- `repair::flip::finish::put_keys` meets its contract. Assumes nothing.
use Rattle.repair.proofs.Laws.Flip.Keys.{keying-end}
use Rattle.repair.proofs.flip.finish.put_keys.Goals as goal

pub returns : goal.returns
returns c = keying-end c.loop-j.invariant c.loop-j-test.false

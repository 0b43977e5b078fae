-- `inverse` meets its contract: the two patterns are no NaN's. Assumes nothing.
use Rattle.std.proofs.Common.{arith}
use Rattle.geometry.proofs.Laws.Root.Pattern.{no_nan}
use Rattle.geometry.proofs.root.inverse.Goals as goal

pub float_from_bits-x : goal.float_from_bits-x
float_from_bits-x c = no_nan _ (omega arith)

pub float_from_bits-y : goal.float_from_bits-y
float_from_bits-y c = no_nan _ (omega arith)

-- `root_digits` meets its contract: the invariant is `Step`, b twice the weight of the last digit. Assumes nothing.
use Rattle.std.proofs.Common.{◌*◌, ◌^◌}
use Rattle.geometry.proofs.Laws.Root.Digits.{Step}
use Rattle.geometry.proofs.root.root_digits.Given as goal

abbrev pub invariant-loop-k : goal.invariant-loop-k
invariant-loop-k l = Step (l.y * 2 ^ 53) l.rest l.s (2 ^ l.k)

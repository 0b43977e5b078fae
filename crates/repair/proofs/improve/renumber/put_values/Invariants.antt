-- `repair::improve::renumber::put_values` meets its contract. The invariant: the first j values are written. Assumes nothing.
use Rattle.std.proofs.Common.{◌≡◌, ◌+◌, ◌++◌, length, take}
use Rattle.repair.specs.inside.improve.Renumber.{values_from}
use Rattle.repair.proofs.improve.renumber.put_values.Given as goal

abbrev pub invariant-loop-j : goal.invariant-loop-j
invariant-loop-j g l = (length l.list ≡ length l.initial.list) × (take (l.i + l.j) l.list ≡ take l.i l.initial.list ++ values_from g.T.Zero.zero l.values l.k l.j)

-- `replay::calls::replay_calls`: at most as many calls agree as were run.
use Rattle.std.proofs.Common.{◌≤◌}
use Rattle.replay.proofs.calls.replay_calls.Given as goal

abbrev pub invariant-loop-i : goal.invariant-loop-i
invariant-loop-i l = l.agree ≤ l.i

-- `replay::pieces::replay_file`: what a piece leaves lies in the buffer.
use Rattle.std.proofs.Common.{◌≤◌, length}
use Rattle.replay.proofs.pieces.replay_file.Given as goal

abbrev pub invariant-loop : goal.invariant-loop
invariant-loop g l = l.piece.kept ≤ length l.buffer

-- `repair::improve::collapse::replace_all` meets its contract. The invariant: the pairs from i on went. Assumes nothing.
use mathlib.Core.Path.{◌≡◌}
use Prim.Native.Nat.{◌≤◌}
use lib.ListN.{length}
use Rattle.repair.proofs.Laws.Replace.Turns.{Left}
use Rattle.repair.proofs.improve.collapse.replace_all.Given as goal

abbrev pub invariant-loop-i : goal.invariant-loop-i
invariant-loop-i l = (l.i ≤ l.k) × (length l.work ≡ length l.initial.work) × Left l.x l.x.room l.k l.initial.work l.work l.i

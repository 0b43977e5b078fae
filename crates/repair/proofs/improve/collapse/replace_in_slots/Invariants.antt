-- `repair::improve::collapse::replace_in_slots` meets its contract. The invariant: what is left of the list gives the whole. Assumes nothing.
use mathlib.Core.Path.{◌≡◌}
use Prim.Native.Nat.{◌-◌, ◌≤◌}
use lib.ListN.{length}
use Rattle.repair.specs.inside.improve.Collapse.{slots_replaced}
use Rattle.repair.proofs.improve.collapse.replace_in_slots.Given as goal

abbrev pub invariant-loop-q : goal.invariant-loop-q
invariant-loop-q l = (l.q ≤ l.end) × (length l.work ≡ length l.initial.work) × (slots_replaced l.x l.e.a l.e.b (l.end - l.q) l.q l.work ≡ slots_replaced l.x l.e.a l.e.b l.n l.p l.initial.work)

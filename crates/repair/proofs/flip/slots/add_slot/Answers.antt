-- `repair::flip::slots::add_slot` meets its contract. Assumes nothing.
use mathlib.Core.Path.{ap, ◌∙◌}
use mathlib.Core.List.{List}
use Prim.Native.Nat.{ℕ, ◌+◌}
use Rattle.mesh.specs.inside.Star.{appended}
use Rattle.repair.proofs.Laws.Flip.Written.{slot_added}
use Rattle.repair.proofs.flip.slots.add_slot.Goals as goal

pub returns : goal.returns
returns c = λ n s h g z. slot_added z c.args.t g h _ (c.append.ensures ∙ ap (λ (u : List ℕ). appended c.args.x c.args.c (c.args.c + 1) u) c.put_slot.ensures)

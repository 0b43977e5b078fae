-- `repair::slots::put_slot` meets its contract. Assumes nothing.
use mathlib.Core.Path.{ap, ◌∙◌}
use mathlib.Core.List.{List}
use Prim.Native.Nat.{ℕ, ◌+◌, ◌*◌}
use lib.ListN.{set}
use Rattle.repair.proofs.slots.put_slot.Goals as goal

pub returns : goal.returns
unfolding Rattle.repair.specs.inside.improve.Collapse.put_slot
returns c =
    let a = c.args in
    let p = a.x.slots + 4 * a.e in
    c.put-4.ensures ∙ ap (λ (w : List ℕ). set w (p + 3) a.t.d) (c.put-3.ensures ∙ ap (λ (w : List ℕ). set w (p + 2) a.t.c) (c.put-2.ensures ∙ ap (λ (w : List ℕ). set w (p + 1) a.t.b) c.put.ensures))

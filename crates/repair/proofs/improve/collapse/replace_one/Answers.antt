-- `repair::improve::collapse::replace_one` meets its contract. Assumes nothing.
use mathlib.Core.Path.{ap, ◌∙◌}
use mathlib.Core.List.{List}
use Prim.Native.Nat.{ℕ, ◌+◌}
use lib.ListN.{set}
use Rattle.repair.specs.inside.Layout.{flags_at}
use Rattle.repair.proofs.Laws.Replace.State.{self-goes, one-goes}
use Rattle.repair.proofs.Laws.Replace.Turns.{slots-room}
use Rattle.repair.proofs.improve.collapse.replace_one.Goals as goal
use Rattle.repair.proofs.improve.collapse.replace_one.Goals.{then-e, else-e}

pub replace_in_slots-requires : goal.replace_in_slots-requires
replace_in_slots-requires c = slots-room c.args.x c.args.x.room c.args.e.a _ _ c.args.work.now c.requires c.star-n.auto.s c.star-n.ensures.0

pub returns : goal.returns
returns c =
    elim c.if-e.branch [
      | then-e w ↦ λ ha hb o m s st. one-goes o m c.args.x c.args.x.room c.args.e.a c.args.e.b c.args.work.now s st ha hb w.if-e.true _ _ _ _ _ w.star-n.ensures.0 w.star-n.ensures.1 w.replace_in_slots.ensures w.join.ensures (c.flag.ensures ∙ ap (λ (u : List ℕ). set u (flags_at c.args.x + c.args.e.a) 1) w.work-is)
      | else-e w ↦ λ ha hb o m s st. self-goes o m c.args.x c.args.x.room c.args.e.a c.args.e.b c.args.work.now s st ha _ w.if-e.false (c.flag.ensures ∙ ap (λ (u : List ℕ). set u (flags_at c.args.x + c.args.e.a) 1) w.work-is)
    ]

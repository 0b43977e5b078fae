-- `repair::smooth::smooth_groups` meets its contract. The invariant is `Going`: the groups left, from the state so far, give what all give. Assumes nothing.
use mathlib.Core.Path.{◌≡◌}
use Prim.Native.Nat.{◌-◌}
use lib.ListN.{length}
use Rattle.repair.specs.Step.{regions_in}
use Rattle.repair.specs.inside.smooth.Site.{Ready, Slots}
use Rattle.repair.proofs.Laws.Site.Groups.{Going}
use Rattle.repair.proofs.smooth.smooth_groups.Given as goal

abbrev pub invariant-loop-first : goal.invariant-loop-first
invariant-loop-first l =
    Ready l.x l.work × Slots l.x l.c.elements.now l.work × Going l.c.options l.c.regions.fields.list.now (regions_in l.c.regions.masks) l.x l.c.masks.now l.c.elements.now l.initial.parameters l.initial.points l.work l.first l.moved l.parameters l.points
    × (length l.work ≡ length l.initial.work)

abbrev pub decreases-loop-first : goal.decreases-loop-first
decreases-loop-first l = l.nv - l.first

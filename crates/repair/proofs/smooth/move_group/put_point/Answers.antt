-- `repair::smooth::move_group::put_point` meets its contract. Assumes nothing.
use Rattle.repair.proofs.Laws.Site.Moved.{put-past, put_three}
use mathlib.Core.Path.{ap, ◌∙◌}
use mathlib.Core.List.{List}
use Prim.Native.Nat.{◌+◌, ◌*◌}
use lib.Ieee.{Float}
use lib.ListN.{set}
use Rattle.repair.proofs.smooth.move_group.put_point.Goals as goal

pub returns-then-nv-i : goal.returns-then-nv-i
returns-then-nv-i c = put-past c.args.nv c.args.points.now c.args.v c.args.p c.if-nv-i.true

pub returns : goal.returns
returns c = put_three c.args.nv c.args.points.now _ c.args.v c.args.p c.if-nv-i.false c.requires.1
    (c.put-3.ensures ∙ ap (λ (s : List Float). set s (3 * c.args.v + 2) c.args.p.z) (c.put-2.ensures ∙ ap (λ (s : List Float). set s (3 * c.args.v + 1) c.args.p.y) c.put.ensures))

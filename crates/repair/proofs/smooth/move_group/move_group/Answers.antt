-- `repair::smooth::move_group::move_group` meets its contract. The invariant: the vertices from the k-th on are placed. Assumes nothing.
use mathlib.Core.Path.{◌≡◌, ap}
use Prim.Native.Nat.{◌+◌, ◌-◌, ◌<◌}
use native.Mathlib.Omega.{arith}
use Rattle.repair.specs.Smooth.{mapped}
use Rattle.repair.specs.inside.smooth.Site.{new_parameters, new_point}
use Rattle.repair.proofs.Laws.Site.Moved.{placed-start, placed-from, placed-turn, still-old, put-at}
use Rattle.repair.proofs.smooth.move_group.move_group.Goals as goal

pub loop-k-init : goal.loop-k-init
loop-k-init c = let new = new_parameters c.args.o c.args.s.vertices c.args.parameters.now c.args.p in
    let new' = new_point c.args.o c.args.s.vertices c.args.parameters.now c.args.p in (
      omega arith,
      placed-start c.args.work.now c.args.s.group c.args.s.count c.args.s.vertices new c.args.parameters.now,
      placed-start c.args.work.now c.args.s.group c.args.s.count c.args.s.vertices new' c.args.points.now,
    )

pub loop-k-preserved : goal.loop-k-preserved
loop-k-preserved c = let s = c.args.s in
    let w = c.args.work.now in
    let new = new_parameters c.args.o s.vertices c.args.parameters.now c.args.p in
    let new' = new_point c.args.o s.vertices c.args.parameters.now c.args.p in
    let k = c.loop-k.k - 1 in
    let h : k < s.count = omega (arith, c.loop-k.invariant.0) in
    let f : c.loop-k.k ≡ k + 1 = omega arith in
    let P = placed-from w s.group s.count s.vertices new c.args.parameters.now c.loop-k.parameters k f c.loop-k.invariant.1 in
    let Q = placed-from w s.group s.count s.vertices new' c.args.points.now c.loop-k.points k f c.loop-k.invariant.2 in
    let e = still-old w s.group s.count c.args.o s.vertices c.args.p new c.args.parameters.now c.loop-k.parameters k c.requires.once h P in (
      omega (arith, h),
      placed-turn w s.group s.count s.vertices new c.args.parameters.now c.loop-k.parameters _ k h P (put-at s.vertices c.loop-k.parameters _ (new_parameters c.args.o s.vertices c.loop-k.parameters c.args.p) c.at-v.ensures e c.move_vertex.ensures.put_parameters),
      placed-turn w s.group s.count s.vertices new' c.args.points.now c.loop-k.points _ k h Q (put-at s.vertices c.loop-k.points _ (new_point c.args.o s.vertices c.loop-k.parameters c.args.p) c.at-v.ensures (ap mapped e) c.move_vertex.ensures.put_points),
    )

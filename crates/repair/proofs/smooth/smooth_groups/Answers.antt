-- `repair::smooth::smooth_groups` meets its contract. The invariant is `Going`: the groups left, from the state so far, give what all give. Assumes nothing.
use mathlib.Core.Path.{refl, sym, ◌∙◌}
use native.Mathlib.Omega.{arith}
use Rattle.repair.specs.Step.{regions_in}
use Rattle.repair.proofs.Laws.Site.Work.{ready-kept, slots_kept, rows-kept}
use Rattle.repair.proofs.Laws.Site.Groups.{going_start, next-rows, next-few, going-turn, going_end}
use Rattle.repair.proofs.smooth.smooth_groups.Goals as goal

pub loop-first-init : goal.loop-first-init
loop-first-init c =
    let a = c.args in
    let F = a.c.regions.fields.list.now in
    let R = regions_in a.c.regions.masks in
    (c.requires.ready.0, c.requires.ready.1, going_start a.c.options F R a.x a.c.masks.now a.c.elements.now a.parameters.now a.points.now a.work.now c.requires.ready.2, refl)

pub smooth_group-moved-requires : goal.smooth_group-moved-requires
smooth_group-moved-requires c =
    let a = c.args in
    let F = a.c.regions.fields.list.now in
    let R = regions_in a.c.regions.masks in
    let y = c.loop-first in
    let N = next-rows a.c.options F R a.x a.c.masks.now a.c.elements.now a.parameters.now a.points.now y.work y.first y.moved y.parameters y.points y.invariant.0 y.invariant.2 c.loop-first-test.true c.run_length-size.result c.run_length-size.ensures in
    record { ready = (y.invariant.0, N, y.invariant.1); moved_before = y.invariant.2.moves; fit = (omega (arith, c.requires.fit.0, y.invariant.2.long.0), omega (arith, c.requires.fit.1, y.invariant.2.long.1)) }

pub overflow_add-first : goal.overflow_add-first
overflow_add-first c =
    let a = c.args in
    let F = a.c.regions.fields.list.now in
    let R = regions_in a.c.regions.masks in
    let y = c.loop-first in
    let n = next-few a.c.options F R a.x a.c.masks.now a.c.elements.now a.parameters.now a.points.now y.work y.first y.moved y.parameters y.points y.invariant.0 y.invariant.2 c.loop-first-test.true c.run_length-size.result c.run_length-size.ensures in
    let f = y.invariant.0.room.few in
    omega (arith, n.1, f)

pub loop-first-smaller : goal.loop-first-smaller
loop-first-smaller c =
    let a = c.args in
    let F = a.c.regions.fields.list.now in
    let R = regions_in a.c.regions.masks in
    let y = c.loop-first in
    let n = next-few a.c.options F R a.x a.c.masks.now a.c.elements.now a.parameters.now a.points.now y.work y.first y.moved y.parameters y.points y.invariant.0 y.invariant.2 c.loop-first-test.true c.run_length-size.result c.run_length-size.ensures in
    omega (arith, n.0, n.1)

pub loop-first-preserved : goal.loop-first-preserved
loop-first-preserved c =
    let a = c.args in
    let F = a.c.regions.fields.list.now in
    let R = regions_in a.c.regions.masks in
    let y = c.loop-first in
    let n = next-few a.c.options F R a.x a.c.masks.now a.c.elements.now a.parameters.now a.points.now y.work y.first y.moved y.parameters y.points y.invariant.0 y.invariant.2 c.loop-first-test.true c.run_length-size.result c.run_length-size.ensures in
    let k = c.smooth_group-moved.ensures.same_to in (
      ready-kept a.x y.work _ y.invariant.0 k.0,
      y.invariant.1 ∙ sym (slots_kept a.x y.work _ y.invariant.0 k.0),
      going-turn a.c.options F R a.x a.c.masks.now a.c.elements.now a.parameters.now a.points.now y.work y.first y.moved y.parameters y.points y.invariant.0 y.invariant.2 c.loop-first-test.true c.run_length-size.result c.run_length-size.ensures
          _ (rows-kept a.x y.work _ y.invariant.0 k.0) _ _ _ k.1 c.smooth_group-moved.ensures.turned,
      k.0.long ∙ y.invariant.3,
    )

pub returns : goal.returns
returns c =
    let a = c.args in
    let F = a.c.regions.fields.list.now in
    let R = regions_in a.c.regions.masks in
    let y = c.loop-first in
    going_end a.c.options F R a.x a.c.masks.now a.c.elements.now a.parameters.now a.points.now y.work y.first y.moved y.parameters y.points y.invariant.2 c.loop-first-test.false

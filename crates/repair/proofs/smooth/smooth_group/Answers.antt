-- `repair::smooth::smooth_group` meets its contract. Assumes nothing.
use mathlib.Core.Path.{refl, sym, ap, ◌∙◌}
use Prim.Native.Nat.{◌+◌, ◌*◌}
use native.Mathlib.Omega.{arith}
use lib.Ieee.{lt}
use Rattle.geometry.specs.Literals.{fifteen_hundredths}
use Rattle.repair.specs.Smooth.{best_for, smooth_group}
use Rattle.repair.specs.Step.{regions_in}
use Rattle.repair.specs.inside.smooth.Site.{state_of, new_parameters, new_point, mesh_for}
use Rattle.repair.proofs.Laws.Site.Work.{same-trans}
use Rattle.repair.proofs.Laws.Site.Turn.{none_of, ready₁, rows₁, slots₁, lowest₁, sited₁, best₁, turned₁, turn-fine, turn-none, turn_moved, site-once, site-vertices, site-placed}
use Rattle.repair.proofs.smooth.smooth_group.Goals as goal

pub returns-then-not-lowest : goal.returns-then-not-lowest
unfolding lib.Ieee.of_bits
returns-then-not-lowest c =
    let a = c.args in
    let w = a.work.now in
    let els = a.c.elements.now in
    let i = 7 * a.run.first + 6 in
    let r = c.requires.ready.0 in
    let g = c.requires.ready.1 in
    let z = c.requires.ready.2 in
    let s = c.list_about-site.result in
    let l = c.list_about-site.ensures in
    let r₁ = ready₁ a.x els i a.run.size w _ s r g z l in
    let g₁ = rows₁ a.x els i a.run.size w _ s r g z l in
    let z₁ = slots₁ a.x els i a.run.size w _ s r g z l in
    let q = lowest₁ a.x els i a.run.size w _ s r g z l a.points.now c.lowest_about-lowest.result c.lowest_about-lowest.ensures in
    record { turned = turned₁ a.x els i a.run.size w _ s r g z l (smooth_group a.c.options a.c.regions.fields.list.now (regions_in a.c.regions.masks) (mesh_for a.x a.c.masks.now els) (state_of a.x.vertices a.parameters.now a.points.now a.moved)) a.parameters.now a.points.now _ _ _ (turn-fine a.c.options a.c.regions.fields.list.now (regions_in a.c.regions.masks) a.x a.c.masks.now els a.parameters.now a.points.now i a.run.size _ r₁ g₁ z₁ a.moved (ap (λ y. lt y fifteen_hundredths) (sym q) ∙ c.if-not-lowest.true)); same_to = (l.same, omega arith) }

pub best_for-best-requires : goal.best_for-best-requires
best_for-best-requires c =
    let a = c.args in
    let w = a.work.now in
    let els = a.c.elements.now in
    let i = 7 * a.run.first + 6 in
    let r = c.requires.ready.0 in
    let g = c.requires.ready.1 in
    let z = c.requires.ready.2 in
    let s = c.list_about-site.result in
    let l = c.list_about-site.ensures in
    let r₁ = ready₁ a.x els i a.run.size w _ s r g z l in
    let z₁ = slots₁ a.x els i a.run.size w _ s r g z l in
    record { ready = (r₁, z₁, sited₁ a.x els i a.run.size w _ s r g z l); lowest = c.lowest_about-lowest.ensures }

pub returns-in_default-clause-turned : goal.returns-in_default-clause-turned
unfolding lib.Ieee.of_bits
returns-in_default-clause-turned c =
    let a = c.args in
    let w = a.work.now in
    let els = a.c.elements.now in
    let i = 7 * a.run.first + 6 in
    let r = c.requires.ready.0 in
    let g = c.requires.ready.1 in
    let z = c.requires.ready.2 in
    let s = c.list_about-site.result in
    let l = c.list_about-site.ensures in
    let r₁ = ready₁ a.x els i a.run.size w _ s r g z l in
    let g₁ = rows₁ a.x els i a.run.size w _ s r g z l in
    let z₁ = slots₁ a.x els i a.run.size w _ s r g z l in
    let q = lowest₁ a.x els i a.run.size w _ s r g z l a.points.now c.lowest_about-lowest.result c.lowest_about-lowest.ensures in
    turned₁ a.x els i a.run.size w _ s r g z l (smooth_group a.c.options a.c.regions.fields.list.now (regions_in a.c.regions.masks) (mesh_for a.x a.c.masks.now els) (state_of a.x.vertices a.parameters.now a.points.now a.moved)) a.parameters.now a.points.now _ _ _ (turn-none a.c.options a.c.regions.fields.list.now (regions_in a.c.regions.masks) a.x a.c.masks.now els a.parameters.now a.points.now i a.run.size _ r₁ g₁ z₁ a.moved c.best_for-best.result (ap (λ y. lt y fifteen_hundredths) (sym q) ∙ c.if-not-lowest.false) (best₁ a.x els i a.run.size w _ s r g z l (best_for a.c.options a.c.regions.fields.list.now (regions_in a.c.regions.masks) (mesh_for a.x a.c.masks.now els) (state_of a.x.vertices a.parameters.now a.points.now 0)) _ c.best_for-best.ensures.best) (none_of c.best_for-best.result.point c.in_default.not-Some))

pub move_group-requires : goal.move_group-requires
move_group-requires c =
    let a = c.args in
    let w = a.work.now in
    let els = a.c.elements.now in
    let i = 7 * a.run.first + 6 in
    let r = c.requires.ready.0 in
    let g = c.requires.ready.1 in
    let z = c.requires.ready.2 in
    let s = c.list_about-site.result in
    let l = c.list_about-site.ensures in
    let n = site-vertices a.x els i a.run.size w _ s r g z l _ c.best_for-best.ensures.same_to in
    let f = r.room.few in
    record { room = omega (arith, n, f); fit = (omega (arith, n, c.requires.fit.0), omega (arith, n, c.requires.fit.1)); once = site-once a.x els i a.run.size w _ s r g z l _ c.best_for-best.ensures.same_to }

pub returns : goal.returns
unfolding lib.Ieee.of_bits
returns c =
    let a = c.args in
    let w = a.work.now in
    let els = a.c.elements.now in
    let i = 7 * a.run.first + 6 in
    let r = c.requires.ready.0 in
    let g = c.requires.ready.1 in
    let z = c.requires.ready.2 in
    let s = c.list_about-site.result in
    let l = c.list_about-site.ensures in
    let r₁ = ready₁ a.x els i a.run.size w _ s r g z l in
    let g₁ = rows₁ a.x els i a.run.size w _ s r g z l in
    let z₁ = slots₁ a.x els i a.run.size w _ s r g z l in
    let q = lowest₁ a.x els i a.run.size w _ s r g z l a.points.now c.lowest_about-lowest.result c.lowest_about-lowest.ensures in
    let e = c.best_for-best.ensures.same_to in
    let p = site-placed a.x els i a.run.size w _ s r g z l _ e (λ n. new_parameters a.c.options n a.parameters.now c.in-Some.p) in
    let p' = site-placed a.x els i a.run.size w _ s r g z l _ e (λ n. new_point a.c.options n a.parameters.now c.in-Some.p) in
    record {
      turned = turned₁ a.x els i a.run.size w _ s r g z l (smooth_group a.c.options a.c.regions.fields.list.now (regions_in a.c.regions.masks) (mesh_for a.x a.c.masks.now els) (state_of a.x.vertices a.parameters.now a.points.now a.moved)) a.parameters.now a.points.now _ _ _ (turn_moved a.c.options a.c.regions.fields.list.now (regions_in a.c.regions.masks) a.x a.c.masks.now els a.parameters.now a.points.now i a.run.size _ r₁ g₁ z₁ a.moved c.best_for-best.result c.in-Some.p _ _ _ (ap (λ y. lt y fifteen_hundredths) (sym q) ∙ c.if-not-lowest.false) (best₁ a.x els i a.run.size w _ s r g z l (best_for a.c.options a.c.regions.fields.list.now (regions_in a.c.regions.masks) (mesh_for a.x a.c.masks.now els) (state_of a.x.vertices a.parameters.now a.points.now 0)) _ c.best_for-best.ensures.best) c.in-Some.is
          (p a.parameters.now _ c.move_group.ensures.placed_parameters) (p' a.points.now _ c.move_group.ensures.placed_points) refl);
      same_to = (same-trans a.x.area w _ _ l.same e, omega arith);
    }

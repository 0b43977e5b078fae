-- `repair::smooth::start_from` meets its contract. Assumes nothing.
use mathlib.Core.Path.{◌≡◌, refl, ap, ap₂, ◌∙◌}
use mathlib.Core.List.{List, map}
use Prim.Native.Nat.{ℕ, ◌+◌, ◌-◌}
use lib.ListN.{take, drop}
use native.Mathlib.Omega.{arith}
use Rattle.std.proofs.lemmas.List.{length-take}
use Rattle.geometry.specs.declared.point.Point.{Point}
use Rattle.mesh.specs.Words.{point_at}
use Rattle.repair.specs.Smooth.{mean}
use Rattle.repair.proofs.Laws.Site.Start.{near-few, near-inside, started-is}
use Rattle.repair.proofs.smooth.start_from.Goals as goal

pub overflow_add-a-2 : goal.overflow_add-a-2
overflow_add-a-2 c = let z = c.args in
    let f = near-inside z.o z.x z.parameters.now z.v z.k z.work.now _ c.requires.0 c.requires.1 c.requires.2 c.neighbours-near.ensures.1 c.neighbours-near.result c.neighbours-near.ensures.0 in
    omega (arith, f, c.neighbours-near.auto.s)

pub slice_bounds-mean_of-end : goal.slice_bounds-mean_of-end
slice_bounds-mean_of-end c = let z = c.args in
    let f = near-inside z.o z.x z.parameters.now z.v z.k z.work.now _ c.requires.0 c.requires.1 c.requires.2 c.neighbours-near.ensures.1 c.neighbours-near.result c.neighbours-near.ensures.0 in
    f

pub mean_of-mean-requires : goal.mean_of-mean-requires
mean_of-mean-requires c = let z = c.args in
    let n = c.neighbours-near.result in
    let a = z.x.area + z.k in
    let f = near-few z.o z.x z.parameters.now z.v z.k z.work.now _ c.requires.0 c.requires.1 c.requires.2 c.neighbours-near.ensures.1 n c.neighbours-near.ensures.0 in
    omega (arith, f, length-take (a + n - a) (drop a c.neighbours-near.new.s))

pub returns : goal.returns
returns c = let z = c.args in
    let n = c.neighbours-near.result in
    let a = z.x.area + z.k in
    let e : a + n - a ≡ n = omega arith in
    started-is z.o z.x z.parameters.now z.v z.k z.work.now _ c.requires.0 c.requires.1 c.requires.2 c.neighbours-near.ensures.1 _ n c.at-original.result c.neighbours-near.ensures.0 (c.at-original.ensures ∙ ap (λ (ps : List Point). point_at ps z.v) c.new-parameters.ensures) refl c.canonical.ensures refl (c.mean_of-mean.ensures ∙ ap₂ (λ (ps : List Point) (j : ℕ). mean (map (point_at ps) (take j (drop a c.neighbours-near.new.s)))) c.new-parameters.ensures e)

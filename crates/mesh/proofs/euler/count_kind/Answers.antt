-- `mesh::euler::count_kind` meets its contract: equal neighbours taken out of sorted rows leave the different ones. Assumes nothing.
use Rattle.std.proofs.Common.{◌+◌, ◌*◌, ◌≤◌, length, refl, ap, ◌∙◌, arith}
use Rattle.mesh.specs.inside.Euler.{different}
use Rattle.mesh.proofs.Laws.Manifold.Fill.{fill-kept, filled-rows}
use Rattle.mesh.proofs.Laws.Manifold.Growth.{kept-both}
use Rattle.mesh.proofs.Laws.Euler.Areas.{rows-counted, counted-kept}
use Rattle.mesh.proofs.euler.count_kind.Goals as goal

pub fill_rows-requires : goal.fill_rows-requires
fill_rows-requires g c = record { room = omega (arith, c.requires.room.1); few = c.requires.few; told = c.requires.told }

pub returns : goal.returns
returns g c =
    let a = c.args in
    let s = a.area.now in
    let s₁ = c.fill_rows.new.area in
    let words = g.R.Rows.words a.kind.now s in
    let wide = g.met.R.Rows.wide a.kind.now s in
    let h : a.from ≤ length s = omega (arith, c.requires.room.1) in
    let r : a.from + g.row.W * a.n ≤ length s = omega (arith, c.requires.room.1) in
    let k = fill-kept words g.row.W wide a.from s h a.n s₁ r c.fill_rows.ensures in
    let room : a.from + (a.n + a.n) * g.row.W ≤ length s₁ = omega (arith, c.requires.room.1, k.long) in (
      rows-counted a.from a.n g.row.W s₁ c.sort_from.new.area c.requires.room.0 room c.sort_from.ensures c.unique_rows.result c.unique_rows.ensures.0
          ∙ ap different (filled-rows words g.row.W wide a.from s h a.n s₁ c.fill_rows.ensures),
      kept-both a.from s s₁ _ k (counted-kept a.from a.n g.row.W s₁ c.sort_from.new.area c.requires.room.0 room c.sort_from.ensures c.unique_rows.new.area _ c.unique_rows.ensures.1 refl),
    )

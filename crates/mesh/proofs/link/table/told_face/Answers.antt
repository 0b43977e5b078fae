-- `mesh::link::table::told_face` meets its contract: the test of each vertex in turn. Assumes nothing.
use Rattle.std.proofs.Common.{◌&&◌, [], ◌∷◌, ap, ◌∙◌, rules, tests}
use Rattle.std.proofs.lemmas.Iterator.{YieldsList-from_slice}
use Rattle.std.proofs.lemmas.Iterator.Search.{all_from_yields_List}
use mathlib.Core.Bool.{and-true}
use Rattle.mesh.specs.inside.LinkTable.{told_mark}
use Rattle.mesh.proofs.link.table.told_face.Goals as goal

pub returns : goal.returns
returns c =
    let a = c.args in
    let p = told_mark a.table.now a.m in
    all_from_yields_List p _ _ _ c.all.ensures.ran (YieldsList-from_slice (a.f.a ∷ a.f.b ∷ a.f.c ∷ []) cc) (λ x b q k. search (rules, tests))
    ∙ ap (λ u. p a.f.a && (p a.f.b && u)) (and-true (p a.f.c))

-- `mesh::link::marks::has` meets its contract: each vertex in turn. Assumes nothing.
use Rattle.std.proofs.Common.{ℕ, eqb, ◌∙◌, rules, tests}
use Rattle.std.proofs.lemmas.Iterator.{YieldsList-from_slice}
use Rattle.std.proofs.lemmas.Iterator.Search.{any_from_yields_List}
use Rattle.mesh.proofs.Laws.With.Walk.{any-mem}
use Rattle.mesh.proofs.link.marks.has.Goals as goal

pub returns : goal.returns
returns c =
    let a = c.args in
    any_from_yields_List (λ (u : ℕ). eqb u a.v) _ _ _ c.any.ensures.ran (YieldsList-from_slice a.vs.now cc) (λ x b q k. search (rules, tests))
    ∙ any-mem a.v a.vs.now

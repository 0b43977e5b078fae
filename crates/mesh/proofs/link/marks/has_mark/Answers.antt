-- `mesh::link::marks::has_mark` meets its contract: the mark of each row in turn. Assumes nothing.
use Rattle.std.proofs.Common.{ℕ, ◌+◌, ◌*◌, eqb, get_or, refl, ◌∙◌, arith, rules, tests}
use Rattle.std.proofs.lemmas.Iterator.{YieldsList-from_range}
use Rattle.std.proofs.lemmas.Iterator.Search.{any_from_yields_List}
use Rattle.mesh.proofs.Laws.LinkRows.Areas.{marked-any}
use Rattle.mesh.proofs.link.marks.has_mark.Goals as goal

pub returns : goal.returns
returns c =
    let a = c.args in
    let s = a.area.now in
    any_from_yields_List (λ (i : ℕ). eqb (get_or s (a.p + i * (a.kw + 1) + a.kw) 0) a.m) _ _ _ c.any.ensures.ran (YieldsList-from_range 0 a.k a.k refl (omega arith)) (λ x b q k. search (rules, tests))
    ∙ marked-any s a.p a.kw a.m a.k

-- `mesh::star::Index::has_all` meets its contract: each vertex is sought in the slot. Assumes nothing.
use Rattle.std.proofs.Common.{ℕ, ◌∙◌, ap, rules, tests}
use Rattle.std.proofs.lemmas.Iterator.{YieldsList-from_slice}
use Rattle.std.proofs.lemmas.Iterator.Search.{all_from_yields_List}
use Rattle.mesh.specs.Complex.{mem, sub}
use Rattle.mesh.specs.inside.With.{entry_has}
use Rattle.mesh.proofs.Laws.With.Walk.{all-sub, any-mem}
use Rattle.mesh.proofs.star.Index.has_all.Goals as goal

pub returns : goal.returns
unfolding entry_has
returns c =
    let us = c.corners-us.result in
    all_from_yields_List (λ (v : ℕ). mem v us) _ _ _ c.all.ensures.ran (YieldsList-from_slice c.args.vs.now cc) (λ x b q k. search (rules, tests, any-mem))
    ∙ all-sub us c.args.vs.now
    ∙ ap (sub c.args.vs.now) c.corners-us.ensures

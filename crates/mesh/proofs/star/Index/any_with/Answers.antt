-- `mesh::star::Index::any_with` meets its contract: each entry of the shorter chain is asked. Assumes nothing.
use Rattle.std.proofs.Common.{ℕ, [], ◌∷◌, ap, ◌∙◌, rules, tests}
use Rattle.std.proofs.lemmas.Iterator.Consumers.{YieldsList-from_first}
use Rattle.std.proofs.lemmas.Iterator.Search.{any_from_yields_List}
use Rattle.mesh.specs.Tests.{any}
use Rattle.mesh.specs.inside.Star.{chain_of}
use Rattle.mesh.specs.inside.With.{chain_left, entry_has, any_with}
use Rattle.mesh.proofs.Laws.Every.{any_is}
use Rattle.mesh.proofs.star.Index.any_with.Goals as goal

pub returns : goal.returns
unfolding any_with
returns c =
    let a = c.args in
    let has = entry_has a.self a.s.now (a.u ∷ a.v ∷ a.w ∷ []) in
    let chain = chain_of a.self a.s.now in
    any_from_yields_List has c.any.new.self _ _ c.any.ensures.ran (YieldsList-from_first (λ (p : ℕ). p) chain_left _ c.chain.ensures) (λ x b q k. search (rules, tests))
    ∙ any_is has _
    ∙ ap (λ (i : ℕ). any has (chain i)) c.rarer-a.ensures

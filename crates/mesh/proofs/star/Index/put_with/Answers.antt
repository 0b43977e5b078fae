-- `mesh::star::Index::put_with` meets its contract. Assumes nothing.
use Rattle.std.proofs.Common.{ℕ, [], ◌∷◌, length, ap, ◌∙◌}
use Rattle.mesh.specs.inside.Star.{written}
use Rattle.mesh.specs.inside.With.{with_met}
use Rattle.mesh.proofs.Laws.With.Walk.{with-steady}
use Rattle.mesh.proofs.star.Index.put_with.Goals as goal

pub put_each-requires-clause-steady : goal.put_each-requires-clause-steady
put_each-requires-clause-steady c = with-steady c.args.self c.args.s.now (c.args.v ∷ c.args.w ∷ []) c.requires.laid

pub returns : goal.returns
unfolding with_met
returns c =
    let a = c.args in
    let e = ap (λ (u : ℕ). with_met a.self a.s.now u (a.v ∷ a.w ∷ [])) c.rarer-a.ensures in
    (c.put_each.ensures.0 ∙ ap length e, c.put_each.ensures.1 ∙ ap (written a.s.now a.self.area) e)

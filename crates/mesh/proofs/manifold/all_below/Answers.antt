-- `mesh::manifold::all_below` meets its contract. Assumes nothing.
use Rattle.std.proofs.Common.{rules, ◌∙◌, ltb, take}
use Rattle.std.proofs.lemmas.Iterator.{YieldsList-from_slice}
use Rattle.std.proofs.lemmas.Iterator.Search.{all_from_yields_List}
use borrow.Author.Tests.{tests}
use Rattle.mesh.proofs.Laws.Every.{every_is}
use Rattle.mesh.proofs.manifold.all_below.Goals as goal

pub returns : goal.returns
returns c =
    all_from_yields_List (λ x. ltb x c.args.b) _ _ _ c.all.ensures.ran (YieldsList-from_slice (take c.args.n c.args.s.now) cc) (λ x b q k. search (rules, tests))
    ∙ every_is (λ x. ltb x c.args.b) (take c.args.n c.args.s.now)

-- `mesh::link::all_four_different` meets its contract: the test of each element in turn. Assumes nothing.
use Rattle.std.proofs.Common.{ℕ, refl, ◌∙◌, arith, rules, tests}
use Rattle.std.proofs.lemmas.Iterator.{YieldsList-from_range}
use Rattle.std.proofs.lemmas.Iterator.Search.{all_from_yields_List}
use Rattle.mesh.specs.Tests.{nodup}
use Rattle.mesh.specs.Element.{vertices_of}
use Rattle.mesh.specs.inside.Intake.{tet_at}
use Rattle.mesh.proofs.Laws.Intake.Every.{tets-all}
use Rattle.mesh.proofs.link.all_four_different.Goals as goal

pub returns : goal.returns
returns c =
    let a = c.args in
    all_from_yields_List (λ (i : ℕ). nodup (vertices_of (tet_at a.area.now i))) _ _ _ c.all.ensures.ran (YieldsList-from_range 0 a.n a.n refl (omega arith)) (λ x b q k. search (rules, tests))
    ∙ tets-all (λ t. nodup (vertices_of t)) a.n a.area.now

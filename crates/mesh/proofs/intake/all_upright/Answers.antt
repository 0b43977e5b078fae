-- `mesh::intake::all_upright` meets its contract: the test of each element in turn. Assumes nothing.
use Rattle.std.proofs.Common.{ℕ, refl, ◌∙◌, arith, rules, tests}
use Rattle.std.proofs.lemmas.Iterator.{YieldsList-from_range}
use Rattle.std.proofs.lemmas.Iterator.Search.{all_from_yields_List}
use Rattle.mesh.specs.Words.{points_in}
use Rattle.mesh.specs.Intake.{upright}
use Rattle.mesh.specs.inside.Intake.{tet_at}
use Rattle.mesh.proofs.Laws.Intake.Every.{tets-all}
use Rattle.mesh.proofs.intake.all_upright.Goals as goal

pub returns : goal.returns
returns c =
    let a = c.args in
    all_from_yields_List (λ (i : ℕ). upright (points_in a.points) (tet_at a.elements.now i)) _ _ _ c.all.ensures.ran (YieldsList-from_range 0 a.n a.n refl (omega arith)) (λ x b q k. search (rules, tests))
    ∙ tets-all (upright (points_in a.points)) a.n a.elements.now

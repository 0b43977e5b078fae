-- `mesh::intake::all_sized` meets its contract: the test of each point in turn. Assumes nothing.
use Rattle.std.proofs.Common.{ℕ, refl, ◌∙◌, arith, rules, tests}
use Rattle.std.proofs.lemmas.Iterator.{YieldsList-from_range}
use Rattle.std.proofs.lemmas.Iterator.Search.{all_from_yields_List}
use Rattle.mesh.specs.Words.{point_in}
use Rattle.mesh.specs.Intake.{sized_point}
use Rattle.mesh.proofs.Laws.Intake.Every.{points-all}
use Rattle.mesh.proofs.intake.all_sized.Goals as goal

pub returns : goal.returns
returns c =
    let a = c.args in
    all_from_yields_List (λ (i : ℕ). sized_point (point_in a.points.floats.now i)) _ _ _ c.all.ensures.ran (YieldsList-from_range 0 a.points.count a.points.count refl (omega arith)) (λ x b q k. search (rules, tests))
    ∙ points-all sized_point a.points.count a.points.floats.now

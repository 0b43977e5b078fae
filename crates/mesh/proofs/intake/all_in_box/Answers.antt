-- `mesh::intake::all_in_box` meets its contract: the test of each parameter in turn. Assumes nothing.
use Rattle.std.proofs.Common.{ℕ, refl, ◌∙◌, arith, rules, tests}
use Rattle.std.proofs.lemmas.Iterator.{YieldsList-from_range}
use Rattle.std.proofs.lemmas.Iterator.Search.{all_from_yields_List}
use Rattle.mesh.specs.Words.{point_in}
use Rattle.mesh.specs.Intake.{in_box}
use Rattle.mesh.proofs.Laws.Intake.Every.{points-all}
use Rattle.mesh.proofs.intake.all_in_box.Goals as goal

pub returns : goal.returns
returns c =
    let a = c.args in
    all_from_yields_List (λ (i : ℕ). in_box a.b (point_in a.parameters.floats.now i)) _ _ _ c.all.ensures.ran (YieldsList-from_range 0 a.parameters.count a.parameters.count refl (omega arith)) (λ x b q k. search (rules, tests))
    ∙ points-all (in_box a.b) a.parameters.count a.parameters.floats.now

-- `mesh::intake::fields_in` meets its contract: the test of each field in turn. Assumes nothing.
use Rattle.std.proofs.Common.{◌∙◌, take, le-leb, rules, tests}
use Rattle.std.proofs.lemmas.Iterator.{YieldsList-from_slice}
use Rattle.std.proofs.lemmas.Iterator.Search.{all_from_yields_List}
use Rattle.mesh.specs.Intake.{sized_field}
use Rattle.mesh.proofs.Laws.Intake.Chains.{and-on}
use Rattle.mesh.proofs.Laws.Every.{every_is}
use Rattle.mesh.proofs.intake.fields_in.Goals as goal

pub returns-then-count-le8 : goal.returns-then-count-le8
returns-then-count-le8 c =
    let a = c.args in
    and-on (le-leb a.count 8 c.if-count-le8.true)
    (all_from_yields_List sized_field _ _ _ c.all.ensures.ran (YieldsList-from_slice (take a.count a.fields) c.iter.ensures.rest) (λ x b q k. search (rules, tests))
    ∙ every_is sized_field (take a.count a.fields))

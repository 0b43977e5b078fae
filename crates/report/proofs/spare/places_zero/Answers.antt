-- `report::spare::places_zero` meets its contract: a test of each number of a range. Assumes nothing.
use Rattle.std.proofs.Common.{rules, refl, tests, ◌∙◌}
use Rattle.std.proofs.lemmas.Iterator.{YieldsList-from_range}
use Rattle.std.proofs.lemmas.Iterator.Search.{all_from_yields_List}
use Rattle.report.specs.Format.{field_places}
use Rattle.report.specs.Block.{place_zero}
use Rattle.report.proofs.Laws.Chains.{all-range}
use Rattle.report.proofs.spare.places_zero.Goals as goal

pub returns : goal.returns
returns c =
    all_from_yields_List (place_zero c.args.s.now) _ _ _ c.all.ensures.ran (YieldsList-from_range 0 field_places field_places refl refl) (λ x b q k. search (rules, tests))
    ∙ all-range (place_zero c.args.s.now) 0 field_places

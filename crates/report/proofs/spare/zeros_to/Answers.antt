-- `report::spare::zeros_to` meets its contract: a test of each number of a range. Assumes nothing.
use Rattle.std.proofs.Common.{◌-◌, rules, refl, tests, ◌∙◌}
use Rattle.std.proofs.lemmas.Iterator.{YieldsList-from_range}
use Rattle.std.proofs.lemmas.Iterator.Search.{all_from_yields_List}
use Rattle.report.specs.Block.{zeros_from}
use Rattle.report.proofs.Laws.Spare.{zero_at}
use Rattle.report.proofs.Laws.Chains.{all-range}
use Rattle.report.proofs.spare.zeros_to.Goals as goal

pub returns : goal.returns
unfolding zeros_from
returns c =
    all_from_yields_List (zero_at c.args.s.now) _ _ _ c.all.ensures.ran (YieldsList-from_range c.args.i c.args.end (c.args.end - c.args.i) refl refl) (λ x b q k. search (rules, tests))
    ∙ all-range (zero_at c.args.s.now) c.args.i (c.args.end - c.args.i)

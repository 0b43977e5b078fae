-- `regions::Regions::outside` meets its contract: the chain gives the library's test of any. Assumes nothing.
use Rattle.std.proofs.Common.{◌∙◌, rules, tests}
use Rattle.std.specs.Float.Ieee.{lt}
use Rattle.std.proofs.lemmas.Iterator.{YieldsList-from_slice}
use Rattle.std.proofs.lemmas.Iterator.Search.{any_from_yields_List}
use lib.Ieee.{of_bits}
use Rattle.geometry.specs.Literals.{e_9}
use Rattle.geometry.specs.Field.{value}
use Rattle.repair.proofs.Laws.Project.Lists.{any-any}
use Rattle.repair.proofs.smooth.regions.Regions.outside.Goals as goal

pub returns : goal.returns
unfolding of_bits
returns c =
    let p = c.args.p in
    any_from_yields_List (λ f. lt e_9 (value f p)) _ _ _ c.any.ensures.ran (YieldsList-from_slice c.args.self.fields.list.now cc) (λ x b q k. search (rules, tests)) ∙ any-any (λ f. lt e_9 (value f p)) c.args.self.fields.list.now

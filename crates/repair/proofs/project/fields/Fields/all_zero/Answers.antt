-- `fields::Fields::all_zero` meets its contract: the chain gives the library's test of all. Assumes nothing.
use Rattle.std.proofs.Common.{◌∙◌, rules, tests}
use Rattle.std.specs.Float.Ieee.{eq}
use Rattle.std.proofs.lemmas.Iterator.{YieldsList-from_slice}
use Rattle.std.proofs.lemmas.Iterator.Search.{all_from_yields_List}
use lib.Ieee.{of_bits}
use Rattle.geometry.specs.Float.{zero64}
use Rattle.geometry.specs.Field.{value}
use Rattle.mesh.proofs.Laws.Every.{every_is}
use Rattle.repair.proofs.project.fields.Fields.all_zero.Goals as goal

pub returns : goal.returns
unfolding of_bits
returns c =
    let p = c.args.p in
    all_from_yields_List (λ f. eq (value f p) zero64) _ _ _ c.all.ensures.ran (YieldsList-from_slice c.args.self.list.now cc) (λ x b q k. search (rules, tests)) ∙ every_is (λ f. eq (value f p) zero64) c.args.self.list.now

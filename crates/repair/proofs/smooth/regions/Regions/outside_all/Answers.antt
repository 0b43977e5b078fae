-- `regions::Regions::outside_all` meets its contract: the chain gives the library's test of all. Assumes nothing.
use Rattle.std.proofs.Common.{◌∙◌, sym, ap, rules, tests}
use Rattle.std.proofs.lemmas.Iterator.{YieldsList-from_slice}
use Rattle.std.proofs.lemmas.Iterator.Search.{all_from_yields_List}
use Rattle.repair.specs.Smooth.{chosen, outside, outside_all}
use Rattle.repair.specs.Step.{regions_in}
use Rattle.mesh.proofs.Laws.Every.{every_is}
use Rattle.repair.proofs.smooth.regions.Regions.outside_all.Goals as goal

pub returns-in-Some : goal.returns-in-Some
returns-in-Some c =
    let p = c.args.p in
    let F = c.args.self.fields.list.now in
    let M = c.in-Some.masks.now in
    all_from_yields_List (λ mask. outside p (chosen mask F)) _ _ _ c.all.ensures.ran (YieldsList-from_slice M cc) (λ x b q k. search (rules, tests)) ∙ every_is (λ mask. outside p (chosen mask F)) M
    ∙ ap (λ r. outside_all p F (regions_in r)) (sym c.in-Some.is)

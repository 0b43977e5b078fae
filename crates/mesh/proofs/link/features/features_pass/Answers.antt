-- `mesh::link::features::features_pass` meets its contract: the runs are given one after the other. Assumes nothing.
use Rattle.std.proofs.Common.{rules, ◌∙◌, drop}
use Rattle.std.proofs.lemmas.Iterator.Search.{all_from_yields_List}
use Rattle.mesh.specs.Feature.{strata_in}
use Rattle.mesh.specs.inside.Rows.{rows}
use Rattle.mesh.specs.inside.Group.{runs, same_first}
use Rattle.mesh.specs.inside.LinkRows.{feature_run}
use Rattle.mesh.proofs.Laws.Every.{every_is}
use Rattle.mesh.proofs.Laws.EachRun.{runs-given, runs-serve}
use Rattle.mesh.proofs.link.features.features_pass.Goals as goal

pub all-requires-clause-callable : goal.all-requires-clause-callable
all-requires-clause-callable c = runs-serve c.new.ensures _ _ _ (λ x q k. search rules) (λ x h e. search (rules, h, e))

pub returns : goal.returns
returns c =
    let a = c.args in
    let test = feature_run (strata_in a.e.now.ends.strata) a.e.now.ends.a a.e.now.ends.b a.e.now.ab in
    all_from_yields_List test c.all.new.self _ _ c.all.ensures.ran (runs-given c.new.ensures) (λ x b q k. search rules)
    ∙ every_is test (runs (same_first 2) (rows 3 a.m (drop a.p a.area.now)))

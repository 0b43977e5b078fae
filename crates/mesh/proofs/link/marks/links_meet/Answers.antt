-- `mesh::link::marks::links_meet` meets its contract: the runs are given one after the other. Assumes nothing.
use Rattle.std.proofs.Common.{rules, ◌+◌, ◌∙◌, drop}
use Rattle.std.proofs.lemmas.Iterator.Search.{all_from_yields_List}
use Rattle.mesh.specs.inside.Rows.{rows}
use Rattle.mesh.specs.inside.Group.{runs, same_first}
use Rattle.mesh.specs.inside.LinkRows.{meet_run}
use Rattle.mesh.proofs.Laws.Every.{every_is}
use Rattle.mesh.proofs.Laws.EachRun.{runs-given, runs-serve}
use Rattle.mesh.proofs.link.marks.links_meet.Goals as goal

pub all-requires-clause-callable : goal.all-requires-clause-callable
all-requires-clause-callable c = runs-serve c.new.ensures _ _ _ (λ x q k. search rules) (λ x h e. search (rules, e))

pub returns : goal.returns
returns c =
    let a = c.args in
    all_from_yields_List (meet_run a.kw) c.all.new.self _ _ c.all.ensures.ran (runs-given c.new.ensures) (λ x b q k. search rules)
    ∙ every_is (meet_run a.kw) (runs (same_first a.kw) (rows (a.kw + 1) a.m (drop a.p a.area.now)))

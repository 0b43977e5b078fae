-- `mesh::manifold::all_two` meets its contract: the runs are given one after the other. Assumes nothing.
use Rattle.std.proofs.Common.{rules, ◌∙◌, drop}
use Rattle.std.proofs.lemmas.Iterator.Search.{all_from_yields_List}
use Rattle.mesh.specs.inside.Rows.{rows}
use Rattle.mesh.specs.inside.Group.{runs, same_first}
use Rattle.mesh.specs.inside.Manifold.{two}
use Rattle.mesh.proofs.Laws.Rows.{length-rows}
use Rattle.mesh.proofs.Laws.Every.{every_is}
use Rattle.mesh.proofs.Laws.EachRun.{runs-given}
use Rattle.mesh.proofs.manifold.all_two.Goals as goal

pub returns : goal.returns
returns c =
    let s = c.args.area.now in
    all_from_yields_List two c.all.new.self _ _ c.all.ensures.ran (runs-given c.new.ensures) (λ x b q k. let e = length-rows 2 x.1 (drop x.0 s) in search (rules, e))
    ∙ every_is two (runs (same_first 2) (rows 2 c.args.m (drop c.args.m s)))

-- `repair::flip::orient::all_above` meets its contract. Assumes nothing.
use mathlib.Core.Path.{◌∙◌}
use Rattle.std.proofs.Common.{rules, tests}
use Rattle.std.proofs.lemmas.Iterator.{YieldsList-from_slice}
use Rattle.std.proofs.lemmas.Iterator.Search.{all_from_yields_List}
use Rattle.mesh.specs.Words.{points_in}
use Rattle.mesh.specs.Measure.{measure}
use Rattle.mesh.proofs.Laws.Every.{every_is}
use Rattle.repair.proofs.flip.orient.all_above.Goals as goal

pub returns : goal.returns
returns c =
    let above = (measure (points_in c.args.points)).above in
    all_from_yields_List above _ _ _ c.all.ensures.ran (YieldsList-from_slice c.args.ts.now cc) (λ x b q k. search (rules, tests)) ∙ every_is above c.args.ts.now

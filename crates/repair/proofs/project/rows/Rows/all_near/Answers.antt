-- `rows::Rows::all_near` meets its contract: the chain gives the library's test of all. Assumes nothing.
use Rattle.std.proofs.Common.{◌∙◌, sym, rules, tests}
use Rattle.std.specs.Float.Ieee.{lt}
use Rattle.std.proofs.lemmas.Iterator.{YieldsList-from_slice}
use Rattle.std.proofs.lemmas.Iterator.Search.{all_from_yields_List}
use Rattle.geometry.specs.Float.{absolute}
use Rattle.mesh.proofs.Laws.Boundary.Faces.{every_map}
use Rattle.repair.specs.inside.project.Solve.{row_of}
use Rattle.mesh.proofs.Laws.Every.{every_is}
use Rattle.repair.proofs.project.rows.Rows.all_near.Goals as goal

pub returns : goal.returns
returns c =
    let t = c.args.tolerance in
    all_from_yields_List (λ r. lt (absolute r.value) t) _ _ _ c.all.ensures.ran (YieldsList-from_slice c.args.self.list.now cc) (λ x b q k. search (rules, tests)) ∙ every_is (λ r. lt (absolute r.value) t) c.args.self.list.now
    ∙ sym (every_map row_of (λ r. lt (absolute r.value) t) c.args.self.list.now)

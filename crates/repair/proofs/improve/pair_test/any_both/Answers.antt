-- `repair::improve::pair_test::any_both` meets its contract: each element is asked. Assumes nothing.
use mathlib.Core.Path.{refl, ◌∙◌}
use mathlib.Core.Bool.{◌&&◌}
use Rattle.std.proofs.Common.{arith, rules, tests}
use Rattle.std.proofs.lemmas.Iterator.{YieldsList-from_range}
use Rattle.std.proofs.lemmas.Iterator.Search.{any_from_yields_List}
use Rattle.mesh.specs.inside.Intake.{tet_at}
use Rattle.repair.specs.Mesh.{has}
use Rattle.repair.proofs.Laws.PairOk.Scan.{scanned-all}
use Rattle.repair.proofs.improve.pair_test.any_both.Goals as goal

pub returns : goal.returns
returns c =
    let a = c.args in
    any_from_yields_List (λ i. has a.e.a (tet_at a.elements.now i) && has a.e.b (tet_at a.elements.now i)) _ _ _ c.any.ensures.ran (YieldsList-from_range 0 a.k a.k refl (omega arith)) (λ x b q k. search (rules, tests))
    ∙ scanned-all (λ t. has a.e.a t && has a.e.b t) a.elements.now a.k

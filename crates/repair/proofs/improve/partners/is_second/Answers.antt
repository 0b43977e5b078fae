-- `repair::improve::partners::is_second` meets its contract: each pair's second vertex is asked. Assumes nothing.
use mathlib.Core.Path.{refl, ◌∙◌}
use Prim.Native.Nat.{◌+◌, ◌*◌}
use lib.Dec.{eqb}
use Rattle.std.proofs.Common.{arith, rules, tests}
use Rattle.std.proofs.lemmas.Iterator.{YieldsList-from_range}
use Rattle.std.proofs.lemmas.Iterator.Search.{any_from_yields_List}
use Rattle.mesh.specs.Words.{word_at}
use Rattle.repair.proofs.Laws.Pairs.Walks.{asked-all}
use Rattle.repair.proofs.improve.partners.is_second.Goals as goal

pub returns : goal.returns
returns c =
    let a = c.args in
    any_from_yields_List (λ i. eqb a.u (word_at a.work.now (a.p + 2 * i + 1))) _ _ _ c.any.ensures.ran (YieldsList-from_range 0 a.k a.k refl (omega arith)) (λ x b q k. search (rules, tests))
    ∙ asked-all a.u a.p a.work.now a.k

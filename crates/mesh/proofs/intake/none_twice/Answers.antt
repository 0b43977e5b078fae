-- `mesh::intake::none_twice` meets its contract: each row against the one before it. Assumes nothing.
use Rattle.std.proofs.Common.{ℕ, ◌-◌, ◌*◌, not, take, drop, refl, ◌∙◌, arith, rules, tests}
use Rattle.std.proofs.lemmas.Iterator.{YieldsList-from_range}
use Rattle.std.proofs.lemmas.Iterator.Search.{all_from_yields_List}
use Rattle.mesh.specs.inside.Rows.{eq_row}
use Rattle.mesh.proofs.Laws.Intake.Area.{twice-all}
use Rattle.mesh.proofs.intake.none_twice.Goals as goal

pub returns : goal.returns
returns c =
    let n = c.args.n in
    let s = c.args.s.now in
    all_from_yields_List (λ (i : ℕ). not (eq_row (take 4 (drop (4 * (i - 1)) s)) (take 4 (drop (4 * i) s)))) _ _ _ c.all.ensures.ran (YieldsList-from_range 1 n (n - 1) refl (omega arith)) (λ x b q k. search (rules, tests))
    ∙ twice-all s n

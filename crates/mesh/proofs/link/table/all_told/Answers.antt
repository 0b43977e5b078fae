-- `mesh::link::table::all_told` meets its contract: the test of each element in turn. Assumes nothing.
use Rattle.std.proofs.Common.{ℕ, ◌-◌, ◌*◌, Bool, List, length, take, drop, refl, ap, ◌∙◌, arith, rules, tests}
use Rattle.std.proofs.lemmas.Iterator.{YieldsList-from_range}
use Rattle.std.proofs.lemmas.Iterator.Search.{all_from_yields_List}
use Rattle.mesh.specs.declared.element.Tet.{Tet}
use Rattle.mesh.specs.Tests.{every}
use Rattle.mesh.specs.Element.{tets}
use Rattle.mesh.specs.inside.Intake.{tet_at}
use Rattle.mesh.specs.inside.LinkTable.{told_tet}
use Rattle.mesh.proofs.Laws.Parts.{tail-mid}
use Rattle.mesh.proofs.Laws.Intake.Every.{tets-all}
use Rattle.mesh.proofs.link.table.all_told.Goals as goal

pub returns : goal.returns
returns c =
    let n = c.args.area.now.n in
    let s = c.args.area.now.words.now in
    let p : List ℕ → Tet → Bool = λ table. told_tet table c.args.ab.a c.args.ab.b in
    all_from_yields_List (λ (e : ℕ). p (take (length s - 60 * n) (drop (60 * n) s)) (tet_at s e)) _ _ _ c.all.ensures.ran (YieldsList-from_range 0 n n refl (omega arith)) (λ x b q k. search (rules, tests))
    ∙ tets-all (p (take (length s - 60 * n) (drop (60 * n) s))) n s
    ∙ ap (λ (l : List ℕ). every (p l) (tets n s)) (tail-mid (60 * n) s)

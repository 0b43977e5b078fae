-- `report::counted::Mesh::inside_count` meets its contract: the count of the numbers of elements that pass. Assumes nothing.
use Rattle.std.proofs.Common.{◌≡◌, ℕ, length, rules, tests, ◌∙◌, arith}
use Rattle.std.specs.List.{filter, range_with_len}
use Rattle.std.proofs.lemmas.Iterator.{YieldsList-from_range}
use Rattle.std.proofs.lemmas.Iterator.Consumers.{YieldsList-from_filter, count_from_yields_List}
use Rattle.mesh.specs.Words.{points_in}
use Rattle.mesh.specs.Complex.{keep}
use Rattle.mesh.specs.Element.{tets}
use Rattle.mesh.specs.inside.Intake.{tet_at}
use Rattle.mesh.proofs.Laws.Intake.Reads.{length-tets}
use Rattle.mesh.proofs.Laws.List.Bad.{keep-few}
use Rattle.report.specs.Table.{is_inside, inside_count}
use Rattle.report.proofs.Laws.Chains.{counted-from}
use Rattle.report.proofs.counted.Mesh.inside_count.Goals as goal

pub returns : goal.returns
unfolding inside_count
returns c =
    let p = is_inside (points_in c.args.self.points) c.args.f in
    let s = c.args.self.elements.now in
    let n = c.args.self.count in
    let e : c.count.result ≡ length (filter (λ (i : ℕ). p (tet_at s i)) (range_with_len 0 n)) =
    count_from_yields_List c.filter.result c.count.result c.count.ensures.ran (YieldsList-from_filter _ (λ (i : ℕ). p (tet_at s i)) (YieldsList-from_range 0 n n (cc) (omega arith)) c.filter.ensures.closure (λ x b q k. search (rules, tests))) in
    let whole : c.count.result ≡ length (keep p (tets n s)) = e ∙ counted-from p s 0 n in
    let few = keep-few p (tets n s) in
    let long = length-tets n s in
    (whole, omega arith)

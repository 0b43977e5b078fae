-- `mesh::strata::Strata::link_ok_in` meets its contract. Assumes nothing.
use Rattle.std.proofs.Common.{◌≡◌, ℕ, ◌-◌, ◌*◌, List, ◌++◌, length, take, sym, ap, not, subst, rules}
use Rattle.mesh.specs.Words.{zero_words}
use Rattle.mesh.specs.Feature.{strata_in}
use Rattle.mesh.proofs.Laws.Intake.Chains.{fails_by, holds_by}
use Rattle.mesh.proofs.Laws.LinkRows.Whole.{fits-is, in-no, in-yes}
use Rattle.mesh.proofs.strata.Strata.link_ok_in.Goals as goal

pub returns-then-not-link_fits : goal.returns-then-not-link_fits
returns-then-not-link_fits c = in-no (strata_in c.args.self) c.args.a c.args.b c.args.n c.args.area.now (fails_by c.link_fits.ensures (ap not c.if-not-link_fits.true))

pub invariant_of-edge_passes : goal.invariant_of-edge_passes
invariant_of-edge_passes c = let f = fits-is c.args.n c.args.area.now (holds_by c.link_fits.ensures (ap not c.if-not-link_fits.false)) in record { few = f.0; room = f.1 }

pub edge_passes-ok-requires : goal.edge_passes-ok-requires
edge_passes-ok-requires c = (fits-is c.args.n c.args.area.now (holds_by c.link_fits.ensures (ap not c.if-not-link_fits.false))).2

pub returns : goal.returns
returns c =
    let n = c.args.n in
    let k = c.edge_passes-ok.ensures in
    let s = c.edge_passes-ok.new.area.words.now in
    let lent = sym k.1.same.lent in
    in-yes (strata_in c.args.self) c.args.a c.args.b n c.args.area.now c.edge_passes-ok.result s c.clear_from.new.area (holds_by c.link_fits.ensures (ap not c.if-not-link_fits.false)) k.0 k.1.elements
    (subst (λ (l : List ℕ). c.clear_from.new.area ≡ take (4 * n) l ++ zero_words (length l - 4 * n)) (search rules) c.clear_from.ensures)

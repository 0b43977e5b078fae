-- `repair::improve::pair_test::elements_link` meets its contract. Assumes nothing.
use mathlib.Core.Path.{sym, ap, ◌∙◌}
use Prim.Native.Nat.{ℕ, ◌+◌, ◌-◌, ◌*◌}
use borrow.Rule.Slice.PartMut.{mid_of}
use Rattle.mesh.specs.Feature.{link_ok_in}
use Rattle.repair.specs.inside.improve.Partners.{strata_of}
use Rattle.repair.proofs.Laws.PairOk.Part.{link-none, link-some}
use Rattle.repair.proofs.improve.pair_test.elements_link.Goals as goal

pub returns-then-not-any_both-clause-value : goal.returns-then-not-any_both-clause-value
returns-then-not-any_both-clause-value c =
    let a = c.args in
    link-none (strata_of a.given.now) a.e.a a.e.b a.i a.k a.work.now c.requires.1 c.requires.2 c.requires.3 (sym c.any_both.ensures ∙ c.if-not-any_both.true)

pub returns-clause-value : goal.returns-clause-value
returns-clause-value c =
    let a = c.args in
    link-some (strata_of a.given.now) a.e.a a.e.b a.i a.k a.work.now c.requires.1 c.requires.2 c.requires.3 (sym c.any_both.ensures ∙ c.if-not-any_both.false) _ _
    (c.link_ok_in.ensures ∙ ap (λ (f : ℕ → ℕ). link_ok_in f a.e.a a.e.b a.k (mid_of a.i (a.i + 88 * a.k - a.i) a.work.now)) c.strata.ensures)

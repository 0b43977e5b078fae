-- `repair::improve::collapse::slot_after` meets its contract, test by test. Assumes nothing.
use mathlib.Core.Path.{sym, ◌∙◌}
use Rattle.std.proofs.Common.{rules, tests}
use Rattle.repair.proofs.Laws.Replace.Slots.{after_none, after_both, after_one}
use Rattle.repair.proofs.improve.collapse.slot_after.Goals as goal

pub returns-then-not-has_vertex : goal.returns-then-not-has_vertex
returns-then-not-has_vertex c = sym (after_none c.args.e.a c.args.e.b c.args.t (sym c.has_vertex.ensures ∙ c.if-not-has_vertex.true))

pub returns-then-has_vertex : goal.returns-then-has_vertex
returns-then-has_vertex c = after_both c.args.e.a c.args.e.b c.args.t (sym c.has_vertex.ensures ∙ c.if-not-has_vertex.false) (sym c.has_vertex-2.ensures ∙ c.if-has_vertex.true)

pub returns : goal.returns
returns c =
    let i = after_one c.args.e.a c.args.e.b c.args.t (sym c.has_vertex.ensures ∙ c.if-not-has_vertex.false) (sym c.has_vertex-2.ensures ∙ c.if-has_vertex.false) in
    rw (sym i) (search (rules, tests))

-- `repair::improve::partners::has_active` meets its contract. The invariant is `Counted`: as many are wanted still as are left. Assumes nothing.
use mathlib.Core.Path.{sym, ◌∙◌}
use Rattle.repair.proofs.Laws.Pairs.Walks.{counted-passive, counted-active, counted-over, counted-end}
use Rattle.repair.proofs.improve.partners.has_active.Goals as goal

pub returns-then-more-eq0 : goal.returns-then-more-eq0
returns-then-more-eq0 c = counted-over c.loop-i.invariant c.member.result c.loop-i-test.true c.member.ensures (sym c.is_active.ensures ∙ c.if-not-is_active.false) c.if-more-eq0.true

pub loop-i-preserved-then-not-is_active : goal.loop-i-preserved-then-not-is_active
loop-i-preserved-then-not-is_active c = counted-passive c.loop-i.invariant c.member.result c.loop-i-test.true c.member.ensures (sym c.is_active.ensures ∙ c.if-not-is_active.true)

pub loop-i-preserved : goal.loop-i-preserved
loop-i-preserved c = counted-active c.loop-i.invariant c.member.result c.loop-i-test.true c.member.ensures (sym c.is_active.ensures ∙ c.if-not-is_active.false) c.if-more-eq0.false

pub returns : goal.returns
returns c = counted-end c.loop-i.invariant c.loop-i-test.false

-- `repair::improve::partners::find_partner` meets its contract. The invariant is `Seeking`: the partner is among the members left. Assumes nothing.
use mathlib.Core.Path.{sym, ◌∙◌}
use Rattle.repair.proofs.Laws.Pairs.Walks.{seek-passive, seek-other, seek_found, seek-none}
use Rattle.repair.proofs.improve.partners.find_partner.Goals as goal
use Rattle.repair.proofs.improve.partners.find_partner.Goals.{else-is_active-via-then-is_active+else-c-cap_at, else-is_active-via-else-is_active}

pub returns-then-c-cap_at : goal.returns-then-c-cap_at
returns-then-c-cap_at c = seek_found c.loop-i.invariant c.member-u.result c.loop-i-test.true c.member-u.ensures (sym c.is_active.ensures ∙ c.if-is_active.true) (sym c.cap_at-c.ensures ∙ c.if-c-cap_at.true ∙ c.cap_at.ensures)

pub loop-i-preserved : goal.loop-i-preserved
loop-i-preserved c =
    elim c.else-is_active.branch [
      | else-is_active-via-then-is_active+else-c-cap_at w ↦ seek-other c.loop-i.invariant c.member-u.result c.loop-i-test.true c.member-u.ensures (sym c.is_active.ensures ∙ w.if-is_active.true) (λ q. w.if-c-cap_at.false (c.cap_at-c.ensures ∙ q ∙ sym w.cap_at.ensures))
      | else-is_active-via-else-is_active w ↦ seek-passive c.loop-i.invariant c.member-u.result c.loop-i-test.true c.member-u.ensures (sym c.is_active.ensures ∙ w.if-is_active.false)
    ]

pub returns : goal.returns
returns c = seek-none c.loop-i.invariant c.loop-i-test.false

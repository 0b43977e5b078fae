-- `repair::improve::partners::pair_groups` meets its contract. The invariant is `Pairing`: the members done have partners of their own, written as pairs.
-- Assumes nothing.
use mathlib.Core.Path.{sym, ◌∙◌}
use Rattle.repair.proofs.Laws.Pairs.Pairing.{pairing-start, pairing-group, pairing-room, pairing-passive, pairing-stop, pairing-turn, pairing-done, pairing-fewer}
use Rattle.repair.proofs.improve.partners.pair_groups.Goals as goal

pub loop-i-init : goal.loop-i-init
loop-i-init c = pairing-start c.requires.0 c.requires.1 c.requires.2 c.requires.3

pub put_pair-requires : goal.put_pair-requires
put_pair-requires c = (pairing-group c.requires.0 c.requires.1 c.requires.2 c.requires.3 c.loop-i.invariant, pairing-room c.requires.0 c.requires.1 c.requires.2 c.requires.3 c.loop-i.invariant c.loop-i-test.true c.member-v.result c.member-v.ensures)

pub returns-then-not-put_pair : goal.returns-then-not-put_pair
returns-then-not-put_pair c = pairing-stop c.requires.0 c.requires.1 c.requires.2 c.requires.3 c.loop-i.invariant c.loop-i-test.true c.member-v.result c.member-v.ensures (sym c.is_active.ensures ∙ c.if-not-is_active.false) c.put_pair.result c.put_pair.new.work c.put_pair.ensures.0 c.put_pair.ensures.1 c.if-not-put_pair.true

pub has_active-requires : goal.has_active-requires
has_active-requires c = pairing-group c.requires.0 c.requires.1 c.requires.2 c.requires.3 c.loop-i.invariant

pub loop-i-preserved-then-not-is_active : goal.loop-i-preserved-then-not-is_active
loop-i-preserved-then-not-is_active c = pairing-passive c.requires.0 c.requires.1 c.requires.2 c.requires.3 c.loop-i.invariant c.loop-i-test.true c.member-v.result c.member-v.ensures (sym c.is_active.ensures ∙ c.if-not-is_active.true)

pub loop-i-preserved : goal.loop-i-preserved
loop-i-preserved c = pairing-turn c.requires.0 c.requires.1 c.requires.2 c.requires.3 c.loop-i.invariant c.loop-i-test.true c.member-v.result c.member-v.ensures (sym c.is_active.ensures ∙ c.if-not-is_active.false) c.put_pair.result c.put_pair.new.work c.put_pair.ensures.0 c.put_pair.ensures.1 c.if-not-put_pair.false

pub returns-then-has_active : goal.returns-then-has_active
returns-then-has_active c = pairing-done c.requires.0 c.requires.1 c.requires.2 c.requires.3 c.loop-i.invariant c.loop-i-test.false (sym c.if-has_active.true ∙ c.has_active.ensures)

pub returns-else-has_active : goal.returns-else-has_active
returns-else-has_active c = pairing-fewer c.requires.0 c.requires.1 c.requires.2 c.requires.3 c.loop-i.invariant c.loop-i-test.false (sym c.if-has_active.false ∙ c.has_active.ensures)

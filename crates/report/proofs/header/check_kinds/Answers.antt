-- `report::header::check_kinds` meets its contract. The invariant: what is left of the kinds from j on is the whole. Assumes nothing.
use Rattle.std.proofs.Common.{◌≡◌, false, true, not, sym, ap, ◌∙◌}
use Rattle.report.proofs.Laws.Kinds.{known, every-turn, every-fail, every-end, kinds-over, kinds-unknown, kinds-known, kind-known}
use Rattle.report.proofs.header.check_kinds.Goals as goal

pub returns-then-n-gt-FIELD_PLACES : goal.returns-then-n-gt-FIELD_PLACES
returns-then-n-gt-FIELD_PLACES c = kinds-over c.args.s.now c.word-n.result c.word-n.ensures c.if-n-gt-FIELD_PLACES.true

pub returns-then-is_err : goal.returns-then-is_err
returns-then-is_err c =
    let k = kind-known c.word.result c.try_from.result c.try_from.ensures in
    let f : known c.args.s.now c.loop-j.j ≡ false = rw c.word.ensures at (sym k ∙ (c.is_err.ensures.negation ∙ ap not c.if-is_err.true)) in
    kinds-unknown c.args.s.now c.word-n.result c.word-n.ensures c.loop-j.invariant.0 (every-fail (known c.args.s.now) c.word-n.result c.loop-j.j _ c.loop-j.invariant.1 c.loop-j-test.true f)

pub loop-j-preserved : goal.loop-j-preserved
loop-j-preserved c =
    let k = kind-known c.word.result c.try_from.result c.try_from.ensures in
    let f : known c.args.s.now c.loop-j.j ≡ true = rw c.word.ensures at (sym k ∙ (c.is_err.ensures.negation ∙ ap not c.if-is_err.false)) in
    (c.loop-j.invariant.0, every-turn (known c.args.s.now) c.word-n.result c.loop-j.j _ c.loop-j.invariant.1 c.loop-j-test.true f)

pub returns : goal.returns
returns c = kinds-known c.args.s.now c.word-n.result c.word-n.ensures c.loop-j.invariant.0 (every-end (known c.args.s.now) c.word-n.result c.loop-j.j _ c.loop-j.invariant.1 c.loop-j-test.false)

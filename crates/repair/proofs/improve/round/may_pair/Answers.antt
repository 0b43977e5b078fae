-- `repair::improve::round::may_pair` meets its contract. Assumes nothing.
use mathlib.Core.Path.{sym, ◌∙◌}
use Rattle.repair.proofs.Laws.MayPair.{no-rule, with-rule}
use Rattle.repair.proofs.improve.round.may_pair.Goals as goal

pub returns-else-stratum_rule : goal.returns-else-stratum_rule
returns-else-stratum_rule c = λ m s r z. no-rule c.args.given.now.options m c.args.given.now.index c.args.given.now.index.room s c.args.e.a c.args.e.b c.args.work.now z (sym (c.stratum_rule.ensures m r) ∙ c.if-stratum_rule.false)

pub returns-then-stratum_rule : goal.returns-then-stratum_rule
returns-then-stratum_rule c = λ m s r z. with-rule c.args.given.now.options m c.args.given.now.index c.args.given.now.index.room s c.args.e.a c.args.e.b c.args.work.now z c.find_pairs.new.work c.find_pairs.result (sym (c.stratum_rule.ensures m r) ∙ c.if-stratum_rule.true) (c.find_pairs.ensures m c.args.given.now.index.room s r.parameters z)

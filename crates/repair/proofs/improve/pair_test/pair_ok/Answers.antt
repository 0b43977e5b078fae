-- `repair::improve::pair_test::pair_ok` meets its contract. Assumes nothing.
use mathlib.Core.Path.{refl, sym, ◌∙◌}
use native.Mathlib.Omega.{arith}
use Rattle.repair.proofs.Laws.PairOk.Whole.{ready, decided, left}
use Rattle.repair.proofs.improve.pair_test.pair_ok.Goals as goal

pub overflow_add-x : goal.overflow_add-x
overflow_add-x c = let h = (ready c.args.given.now.index c.args.given.now.index.room c.args.p c.args.work.now (c.requires.0.3.room, c.requires.1, c.requires.2, c.requires.3) (c.args.given.now.options, c.requires.0.0, c.requires.0.1, c.requires.0.3) _ _ _ c.pairs_at.ensures c.pair_from-e.ensures.0 c.pair_from-e.ensures.1 _ _ _ c.star-k.ensures.0 c.star-k.ensures.1 c.elements_at.ensures).0 in omega (arith, h)

pub elements_link-requires : goal.elements_link-requires
elements_link-requires c = ready c.args.given.now.index c.args.given.now.index.room c.args.p c.args.work.now (c.requires.0.3.room, c.requires.1, c.requires.2, c.requires.3) (c.args.given.now.options, c.requires.0.0, c.requires.0.1, c.requires.0.3) _ _ _ c.pairs_at.ensures c.pair_from-e.ensures.0 c.pair_from-e.ensures.1 _ _ _ c.star-k.ensures.0 c.star-k.ensures.1 c.elements_at.ensures

pub returns : goal.returns
returns c =
    record {
      value = (λ m s r z.
          c.elements_link.ensures.value
          ∙ decided c.args.given.now.index c.args.given.now.index.room c.args.p c.args.work.now (c.requires.0.3.room, c.requires.1, c.requires.2, c.requires.3) (c.args.given.now.options, c.requires.0.0, c.requires.0.1, c.requires.0.3) _ _ _ c.pairs_at.ensures c.pair_from-e.ensures.0 c.pair_from-e.ensures.1 _ _ _ c.star-k.ensures.0 c.star-k.ensures.1 c.elements_at.ensures c.args.given.now.options m s _ _ _ refl r.masks r.parameters (sym (c.stratum_rule.ensures m r) ∙ c.if-not-stratum_rule.false) z);
      same = left c.args.given.now.index c.args.given.now.index.room c.args.p c.args.work.now (c.requires.0.3.room, c.requires.1, c.requires.2, c.requires.3) (c.args.given.now.options, c.requires.0.0, c.requires.0.1, c.requires.0.3) _ _ _ c.pairs_at.ensures c.pair_from-e.ensures.0 c.pair_from-e.ensures.1 _ _ _ c.star-k.ensures.0 c.star-k.ensures.1 c.elements_at.ensures _ c.elements_link.ensures.same;
    }

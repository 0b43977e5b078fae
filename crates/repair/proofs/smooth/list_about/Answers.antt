-- `repair::smooth::list_about` meets its contract. Assumes nothing.
use mathlib.Core.Path.{refl}
use Rattle.repair.proofs.Laws.Site.About.{listed-few, listed-is}
use Rattle.repair.proofs.Laws.Site.Turn.{listed-range}
use Rattle.repair.proofs.smooth.list_about.Goals as goal

pub invariant_of-result : goal.invariant_of-result
invariant_of-result c = let a = c.args in
    let few = listed-few a.x a.work.now a.group a.count c.requires.0 c.requires.1 _ c.star_about-n.ensures.0 in
    let r = listed-range a.x a.work.now a.group a.count _ c.requires.0 c.requires.1 few in
    record { rows = r.0; list = r.1 }

pub returns : goal.returns
returns c = listed-is c.args.x c.args.work.now c.args.group c.args.count c.requires.0 c.requires.1 _ _ c.star_about-n.ensures.0 c.star_about-n.ensures.1 refl refl refl refl

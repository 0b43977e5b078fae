-- `repair::improve::gain::gains` meets its contract: the elements about the pairs are found and measured. Assumes nothing.
use native.Mathlib.Omega.{arith}
use Rattle.mesh.specs.Words.{points_in}
use Rattle.repair.proofs.Laws.Gain.Around.{double, around, gain-is}
use Rattle.repair.proofs.improve.gain.gains.Goals as goal

pub overflow_mul-k : goal.overflow_mul-k
overflow_mul-k c = omega (arith, double c.args.given.now.index c.args.given.now.index.room c.args.k c.args.work.now c.requires.0.3.room c.requires.1 c.requires.0.3.index)

pub overflow_add-x : goal.overflow_add-x
overflow_add-x c = let a = around c.args.given.now.index c.args.given.now.index.room c.args.k c.args.work.now c.requires.0.3.room c.requires.1 c.requires.0.3.index _ _ _ _ c.pairs_at.ensures c.star_about-c.ensures.0 c.star_about-c.ensures.1 c.elements_at.ensures in let b = a.fits in omega arith

pub gains_at-requires : goal.gains_at-requires
gains_at-requires c = let a = around c.args.given.now.index c.args.given.now.index.room c.args.k c.args.work.now c.requires.0.3.room c.requires.1 c.requires.0.3.index _ _ _ _ c.pairs_at.ensures c.star_about-c.ensures.0 c.star_about-c.ensures.1 c.elements_at.ensures in (a.few, a.fits, a.room)

pub returns : goal.returns
returns c = let a = around c.args.given.now.index c.args.given.now.index.room c.args.k c.args.work.now c.requires.0.3.room c.requires.1 c.requires.0.3.index _ _ _ _ c.pairs_at.ensures c.star_about-c.ensures.0 c.star_about-c.ensures.1 c.elements_at.ensures in
    record { value = λ m s r z. gain-is c.args.given.now.index c.args.given.now.index.room c.args.k c.args.work.now c.requires.0.3.room c.requires.1 c.requires.0.3.index a (points_in c.args.given.now.points) _ c.gains_at.ensures c.args.given.now.options m s r.points z; same = a.same }

-- `trial_scores::View::try_point` meets its contract. The invariant: of what is left, from what is found so far, lowest score and test are those of the whole. Assumes nothing.
use Rattle.std.proofs.Common.{◌≡◌, ℕ, ◌+◌, ◌-◌, true, false, ◌&&◌, ◌∙◌, sym, ap, arith}
use lib.Ieee.{lt, of_bits}
use Rattle.geometry.specs.Float.{smaller, one64}
use Rattle.mesh.specs.Words.{word_at}
use Rattle.mesh.specs.Tests.{every}
use Rattle.mesh.specs.inside.Intake.{tet_at}
use Rattle.mesh.specs.Measure.{measure, score_of}
use Rattle.repair.specs.inside.smooth.Site.{about, trial_points}
use Rattle.repair.proofs.Laws.Measured.{measured-none, measured-some}
use Rattle.repair.proofs.Laws.Site.Scan.{low_left, better_left, low-start, low_turn, low_end, better-turn, better-fail, better-low, better-end}
use Rattle.repair.proofs.smooth.trial_scores.View.try_point.Goals as goal

pub loop-i-init : goal.loop-i-init
unfolding of_bits
loop-i-init c =
    let x = c.args.self in
    let ps = trial_points x.options x.parameters.now x.points.now x.work.now x.site c.args.p in
    let els = x.elements.now in
    let w = x.work.now in
    let a = x.site.area in
    let n : a + x.site.about - a ≡ x.site.about = omega arith in
    let e = ap (λ (k : ℕ). low_left els w ps a k one64) n ∙ low-start els w ps a x.site.about in
    (e, (λ i. every (measure ps).above (about els w a (n i)) && lt c.args.bar (e i)))

pub returns-in_err-score : goal.returns-in_err-score
returns-in_err-score c =
    let x = c.args.self in
    let ps = trial_points x.options x.parameters.now x.points.now x.work.now x.site c.args.p in
    let els = x.elements.now in
    let w = x.work.now in
    let l = c.loop-i in
    let left = x.site.area + x.site.about - l.i in
    let t : c.tet_at-t.result ≡ tet_at els (word_at w l.i) = c.tet_at-t.ensures ∙ ap (tet_at els) c.at.ensures in
    let f : (measure ps).above (tet_at els (word_at w l.i)) ≡ false = ap (λ t. (measure ps).above t) (sym t) ∙ measured-none ps c.tet_at-t.result (sym c.measured.ensures ∙ c.in_err-score.was) in
    rw c.from_residual.ensures (sym l.invariant.1 ∙ better-fail els w ps c.args.bar l.i left l.low (omega (arith, c.loop-i-test.true)) f)

pub returns-then-not-bar-low : goal.returns-then-not-bar-low
returns-then-not-bar-low c =
    let x = c.args.self in
    let ps = trial_points x.options x.parameters.now x.points.now x.work.now x.site c.args.p in
    let els = x.elements.now in
    let w = x.work.now in
    let l = c.loop-i in
    let left = x.site.area + x.site.about - l.i in
    let t : c.tet_at-t.result ≡ tet_at els (word_at w l.i) = c.tet_at-t.ensures ∙ ap (tet_at els) c.at.ensures in
    let e : c.smaller-low.result ≡ smaller l.low (score_of ps (tet_at els (word_at w l.i))) = c.smaller-low.ensures ∙ ap (smaller l.low) (sym (measured-some ps c.tet_at-t.result _ (sym c.measured.ensures ∙ c.in_ok-score.was)).1 ∙ ap (score_of ps) t) in
    let f = ap (lt c.args.bar) (sym e) ∙ c.if-not-bar-low.true in
    sym l.invariant.1 ∙ better-low els w ps c.args.bar l.i left l.low (omega (arith, c.loop-i-test.true)) f

pub loop-i-preserved : goal.loop-i-preserved
loop-i-preserved c =
    let x = c.args.self in
    let ps = trial_points x.options x.parameters.now x.points.now x.work.now x.site c.args.p in
    let els = x.elements.now in
    let w = x.work.now in
    let l = c.loop-i in
    let left = x.site.area + x.site.about - l.i in
    let t : c.tet_at-t.result ≡ tet_at els (word_at w l.i) = c.tet_at-t.ensures ∙ ap (tet_at els) c.at.ensures in
    let e : c.smaller-low.result ≡ smaller l.low (score_of ps (tet_at els (word_at w l.i))) = c.smaller-low.ensures ∙ ap (smaller l.low) (sym (measured-some ps c.tet_at-t.result _ (sym c.measured.ensures ∙ c.in_ok-score.was)).1 ∙ ap (score_of ps) t) in
    let f : (measure ps).above (tet_at els (word_at w l.i)) ≡ true = ap (λ t. (measure ps).above t) (sym t) ∙ (measured-some ps c.tet_at-t.result _ (sym c.measured.ensures ∙ c.in_ok-score.was)).0 in
    let n : x.site.area + x.site.about - (l.i + 1) ≡ left - 1 = omega arith in (
      (λ j. low_left els w ps (l.i + 1) (n j) (e j)) ∙ low_turn els w ps l.i left l.low (omega (arith, c.loop-i-test.true)) ∙ l.invariant.0,
      (λ j. better_left els w ps c.args.bar (l.i + 1) (n j) (e j)) ∙ better-turn els w ps c.args.bar l.i left l.low (omega (arith, c.loop-i-test.true)) f ∙ l.invariant.1,
    )

pub returns-then-not-bar-low-2 : goal.returns-then-not-bar-low-2
returns-then-not-bar-low-2 c =
    let x = c.args.self in
    let ps = trial_points x.options x.parameters.now x.points.now x.work.now x.site c.args.p in
    let els = x.elements.now in
    let w = x.work.now in
    let l = c.loop-i in
    let left = x.site.area + x.site.about - l.i in
    sym l.invariant.1 ∙ better-end els w ps c.args.bar l.i left l.low (omega (arith, c.loop-i-test.false)) ∙ c.if-not-bar-low-2.true

pub returns : goal.returns
returns c =
    let x = c.args.self in
    let ps = trial_points x.options x.parameters.now x.points.now x.work.now x.site c.args.p in
    let els = x.elements.now in
    let w = x.work.now in
    let l = c.loop-i in
    let left = x.site.area + x.site.about - l.i in (
      sym l.invariant.1 ∙ better-end els w ps c.args.bar l.i left l.low (omega (arith, c.loop-i-test.false)) ∙ c.if-not-bar-low-2.false,
      sym (low_end els w ps l.i left l.low (omega (arith, c.loop-i-test.false))) ∙ l.invariant.0,
    )

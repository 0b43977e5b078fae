-- `trial_scores::lowest_about` meets its contract. The invariant: the lowest of what is left, from what is found so far, is the lowest of the whole. Assumes nothing.
use Rattle.std.proofs.Common.{◌≡◌, ℕ, List, ◌+◌, ◌-◌, ◌∙◌, sym, ap, arith}
use lib.Ieee.{of_bits}
use Rattle.geometry.specs.declared.point.Point.{Point}
use Rattle.geometry.specs.Float.{smaller, one64}
use Rattle.mesh.specs.Words.{word_at, points_of}
use Rattle.mesh.specs.inside.Intake.{tet_at}
use Rattle.mesh.specs.Measure.{score_of}
use Rattle.repair.proofs.Laws.Site.Scan.{low_left, low-start, low_turn, low_end}
use Rattle.repair.proofs.smooth.trial_scores.lowest_about.Goals as goal

pub loop-i-init : goal.loop-i-init
unfolding of_bits
loop-i-init c =
    let s = c.args.s in
    let ps = points_of s.vertices c.args.points.now in
    let n : s.area + s.about - s.area ≡ s.about = omega arith in
    ap (λ (k : ℕ). low_left c.args.elements.now c.args.work.now ps s.area k one64) n ∙ low-start c.args.elements.now c.args.work.now ps s.area s.about

pub loop-i-preserved : goal.loop-i-preserved
loop-i-preserved c =
    let s = c.args.s in
    let ps = points_of s.vertices c.args.points.now in
    let els = c.args.elements.now in
    let w = c.args.work.now in
    let l = c.loop-i in
    let e : c.smaller-low.result ≡ smaller l.low (score_of ps (tet_at els (word_at w l.i))) = c.smaller-low.ensures ∙ ap (smaller l.low) (c.score.ensures ∙ ap (λ (qs : List Point). score_of qs c.tet_at-t.result) c.new-points.ensures ∙ ap (score_of ps) (c.tet_at-t.ensures ∙ ap (tet_at els) c.at.ensures)) in
    let n : s.area + s.about - (l.i + 1) ≡ (s.area + s.about - l.i) - 1 = omega arith in
    ap (low_left els w ps (l.i + 1) (s.area + s.about - (l.i + 1))) e ∙ ap (λ (k : ℕ). low_left els w ps (l.i + 1) k (smaller l.low (score_of ps (tet_at els (word_at w l.i))))) n
    ∙ low_turn els w ps l.i (s.area + s.about - l.i) l.low (omega (arith, c.loop-i-test.true)) ∙ l.invariant

pub returns : goal.returns
returns c =
    let s = c.args.s in
    sym (low_end c.args.elements.now c.args.work.now (points_of s.vertices c.args.points.now) c.loop-i.i (s.area + s.about - c.loop-i.i) c.loop-i.low (omega (arith, c.loop-i-test.false))) ∙ c.loop-i.invariant

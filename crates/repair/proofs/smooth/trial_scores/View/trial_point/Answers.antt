-- `trial_scores::View::trial_point` meets its contract. Assumes nothing.
use Rattle.std.proofs.Common.{◌≡◌, List, ◌∙◌, sym, ap}
use Rattle.geometry.specs.declared.point.Point.{Point}
use Rattle.mesh.specs.Words.{point_at}
use Rattle.repair.specs.Smooth.{mapped, kept_on}
use Rattle.repair.specs.inside.smooth.Site.{new_point}
use Rattle.repair.proofs.Laws.Site.Moved.{trial-past, trial-other, trial-at}
use Rattle.repair.proofs.smooth.trial_scores.View.trial_point.Goals.{then-s-v-via-then-s-v, then-s-v-via-else-s-v+then-not-has}
use Rattle.repair.proofs.smooth.trial_scores.View.trial_point.Goals as goal

pub returns-then-s-v : goal.returns-then-s-v
returns-then-s-v c =
    let x = c.args.self in
    c.at.ensures ∙ ap (λ (ps : List Point). point_at ps c.args.v) c.new.ensures ∙ (elim c.then-s-v.branch [
      | then-s-v-via-then-s-v w ↦ trial-past x.options x.parameters.now x.points.now x.work.now x.site c.args.p c.args.v w.if-s-v.true
      | then-s-v-via-else-s-v+then-not-has w ↦ trial-other x.options x.parameters.now x.points.now x.work.now x.site c.args.p c.args.v (sym w.has.ensures ∙ w.if-not-has.true)
    ])

pub returns : goal.returns
returns c =
    let x = c.args.self in
    let e : c.mapped.result ≡ new_point x.options x.site.vertices x.parameters.now c.args.p c.args.v = c.mapped.ensures ∙ ap mapped (c.kept_on.ensures ∙ ap (λ (q : Point). kept_on x.options q c.args.p) (c.at-q.ensures ∙ ap (λ (ps : List Point). point_at ps c.args.v) c.new-2.ensures)) in
    e ∙ trial-at x.options x.parameters.now x.points.now x.work.now x.site c.args.p c.args.v c.if-s-v.false (sym c.has.ensures ∙ c.if-not-has.false)

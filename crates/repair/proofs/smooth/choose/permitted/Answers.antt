-- `choose::permitted` meets its contract. Assumes nothing.
use Rattle.std.proofs.Common.{true, false, ◌∙◌, sym, ap}
use Rattle.repair.specs.Step.{regions_in}
use Rattle.repair.specs.inside.smooth.Site.{permitted}
use Rattle.repair.proofs.Laws.Site.Best.{permitted-by}
use Rattle.repair.proofs.smooth.choose.permitted.Goals as goal

pub returns-in_err-p : goal.returns-in_err-p
returns-in_err-p c =
    let a = c.args in
    c.from_residual.ensures ∙ ap (permitted a.o a.regions.fields.list.now (regions_in a.regions.masks) a.origin a.active.list.now) (sym c.in_err-p.was ∙ c.project.ensures)

pub returns-then-not-allowed : goal.returns-then-not-allowed
returns-then-not-allowed c =
    let a = c.args in
    let R = regions_in a.regions.masks in
    permitted-by a.o a.regions.fields.list.now R a.origin a.active.list.now _ false (sym c.if-not-allowed.true ∙ c.allowed.ensures)
    ∙ ap (permitted a.o a.regions.fields.list.now R a.origin a.active.list.now) (sym c.in_ok-p.was ∙ c.project.ensures)

pub returns : goal.returns
returns c =
    let a = c.args in
    let R = regions_in a.regions.masks in
    permitted-by a.o a.regions.fields.list.now R a.origin a.active.list.now _ true (sym c.if-not-allowed.false ∙ c.allowed.ensures)
    ∙ ap (permitted a.o a.regions.fields.list.now R a.origin a.active.list.now) (sym c.in_ok-p.was ∙ c.project.ensures)

-- `project::steps` meets its contract. The invariant: the steps left, from here on, give what all 12 give. Assumes nothing.
use Rattle.std.proofs.Common.{◌≡◌, ◌-◌, ◌∙◌, length, take, length-take-le, sym, ap, arith}
use Rattle.repair.specs.inside.project.Solve.{step_of}
use Rattle.repair.proofs.Laws.Project.Steps.{near_same, free-same, step-zero, step-unusable, step-near, step-onward, steps-end, steps-turn, steps-none}
use Rattle.repair.proofs.project.steps.Goals as goal

pub returns-then-all_zero : goal.returns-then-all_zero
returns-then-all_zero c = λ b o e t.
    steps-end b o c.args.active.list.now (12 - c.loop.counter) c.loop.at (omega arith) (step-zero b o c.args.active.list.now c.loop.at (sym c.all_zero.ensures ∙ c.if-all_zero.true))
    (c.loop.invariant b o e t)

pub returns-in_err-found : goal.returns-in_err-found
returns-in_err-found c = λ b o e t.
    c.from_residual.ensures ∙ steps-end b o c.args.active.list.now (12 - c.loop.counter) c.loop.at (omega arith)
    (step-unusable b o c.args.active.list.now c.loop.at (sym c.all_zero.ensures ∙ c.if-all_zero.false) c.in_err-found.ensures) (c.loop.invariant b o e t)

pub returns-then-all_near : goal.returns-then-all_near
returns-then-all_near c = λ b o e t.
    let F = c.args.active.list.now in
    let p = c.loop.at in
    let z = sym c.all_zero.ensures ∙ c.if-all_zero.false in
    let n = sym (near_same b o F p c.in_ok-found.ensures.2 t c.all_near.ensures) ∙ c.if-all_near.true in
    steps-end b o F (12 - c.loop.counter) p (omega arith) (step-near b o F p z c.in_ok-found.ensures.0 n) (c.loop.invariant b o e t)

pub returns-in_err-at : goal.returns-in_err-at
returns-in_err-at c = λ b o e t.
    let F = c.args.active.list.now in
    let p = c.loop.at in
    let z = sym c.all_zero.ensures ∙ c.if-all_zero.false in
    let k : length (take (length F) c.in_ok-found.found) ≡ length F = length-take-le (length F) c.in_ok-found.found (omega (arith, c.in_ok-found.ensures.1, c.args.active.few)) in
    let n = sym (near_same b o F p c.in_ok-found.ensures.2 t c.all_near.ensures) ∙ c.if-all_near.false in
    c.from_residual-in_err-at.ensures ∙ steps-end b o F (12 - c.loop.counter) p (omega arith)
    (free-same b o F p e c.in_ok-found.ensures.2 (rw k at c.free-freed.ensures) (ap step_of (sym c.in_err-at.was) ∙ c.onward.ensures b o F e) ∙ step-onward b o F p z c.in_ok-found.ensures.0 n)
    (c.loop.invariant b o e t)

pub loop-preserved : goal.loop-preserved
loop-preserved c = λ b o e t.
    let F = c.args.active.list.now in
    let p = c.loop.at in
    let z = sym c.all_zero.ensures ∙ c.if-all_zero.false in
    let k : length (take (length F) c.in_ok-found.found) ≡ length F = length-take-le (length F) c.in_ok-found.found (omega (arith, c.in_ok-found.ensures.1, c.args.active.few)) in
    let n = sym (near_same b o F p c.in_ok-found.ensures.2 t c.all_near.ensures) ∙ c.if-all_near.false in
    steps-turn b o F 12 c.loop.counter p (omega arith)
    (free-same b o F p e c.in_ok-found.ensures.2 (rw k at c.free-freed.ensures) (ap step_of (sym c.in_ok-at.was) ∙ c.onward.ensures b o F e) ∙ step-onward b o F p z c.in_ok-found.ensures.0 n)
    (c.loop.invariant b o e t)

pub returns : goal.returns
returns c = λ b o e t. steps-none b o c.args.active.list.now (12 - c.loop.counter) c.loop.at (omega arith) (c.loop.invariant b o e t)

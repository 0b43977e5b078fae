-- `mesh::runs::Runs::next` meets its contract: `first-run` is the turn. Assumes nothing.
use Rattle.std.proofs.Common.{rules, ◌-◌, ◌<◌, refl, arith, pos_of_ne-zero}
use Rattle.mesh.proofs.Laws.EachRun.{no-runs, some-run, few-run, run-words, first-run}
use Rattle.mesh.proofs.runs.RunsIterator.next.Goals as goal

pub returns-then-self-eq0-clause-steps : goal.returns-then-self-eq0-clause-steps
returns-then-self-eq0-clause-steps c = let s = c.args.self.now in (refl, refl, no-runs s.area.now s.at s.left s.w s.kw c.if-self-eq0.true)

pub overflow_mul-self : goal.overflow_mul-self
overflow_mul-self c =
    let s = c.args.self.now in
    let q = run-words s.area.now s.at s.left s.w s.kw c.count_run-k.result (pos_of_ne-zero c.if-self-eq0.false) s.room s.keyed c.count_run-k.ensures in
    omega (arith, s.room)

pub overflow_add-self : goal.overflow_add-self
overflow_add-self c =
    let s = c.args.self.now in
    let q = run-words s.area.now s.at s.left s.w s.kw c.count_run-k.result (pos_of_ne-zero c.if-self-eq0.false) s.room s.keyed c.count_run-k.ensures in
    omega (arith, s.room)

pub overflow_sub-self : goal.overflow_sub-self
overflow_sub-self c =
    let s = c.args.self.now in
    few-run s.area.now s.at s.left s.w s.kw c.count_run-k.result (pos_of_ne-zero c.if-self-eq0.false) s.room s.keyed c.count_run-k.ensures

pub invariant_of-self : goal.invariant_of-self
invariant_of-self c =
    let s = c.args.self.now in
    let q = run-words s.area.now s.at s.left s.w s.kw c.count_run-k.result (pos_of_ne-zero c.if-self-eq0.false) s.room s.keyed c.count_run-k.ensures in
    record { room = omega (arith, s.room); keyed = s.keyed }

pub returns-clause-steps : goal.returns-clause-steps
returns-clause-steps c =
    let s = c.args.self.now in
    let k = c.count_run-k.result in
    let h = pos_of_ne-zero c.if-self-eq0.false in
    let e = c.count_run-k.ensures in
    let q = run-words s.area.now s.at s.left s.w s.kw k h s.room s.keyed e in
    (refl, refl, (first-run s.area.now s.at s.left s.w s.kw k h s.room s.keyed e, some-run s.area.now s.at s.left s.w s.kw k h s.room s.keyed e, omega (arith, s.room)))

pub returns-clause-goes : goal.returns-clause-goes
returns-clause-goes c =
    let s = c.args.self.now in
    let k = c.count_run-k.result in
    let h = pos_of_ne-zero c.if-self-eq0.false in
    let e = c.count_run-k.ensures in
    let f = some-run s.area.now s.at s.left s.w s.kw k h s.room s.keyed e in
    let g = few-run s.area.now s.at s.left s.w s.kw k h s.room s.keyed e in
    let d : s.left - k < s.left = omega arith in
    search rules

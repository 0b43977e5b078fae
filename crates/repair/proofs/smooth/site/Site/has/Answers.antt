-- `site::Site::has` meets its contract. The invariant: v is among the rows left if it is among all. Assumes nothing.
use Rattle.std.proofs.Common.{◌≡◌, ◌+◌, ◌-◌, ◌*◌, ◌∙◌, sym, ap₂, arith}
use Rattle.mesh.specs.Complex.{mem}
use Rattle.repair.specs.inside.smooth.Site.{members}
use Rattle.repair.proofs.Laws.Site.Scan.{member-found, member-turn, member-end}
use Rattle.repair.proofs.smooth.site.Site.has.Goals as goal

pub returns-then-v-at : goal.returns-then-v-at
returns-then-v-at c =
    let k = c.loop-k.k in
    sym (member-found c.args.work.now (c.args.self.group + 7 * k) (c.args.self.count - k) c.args.v (omega (arith, c.loop-k-test.true)) (c.if-v-at.true ∙ c.at.ensures)) ∙ c.loop-k.invariant

pub loop-k-preserved : goal.loop-k-preserved
loop-k-preserved c =
    let k = c.loop-k.k in
    let a = c.args in
    let e : a.self.group + 7 * (k + 1) ≡ a.self.group + 7 * k + 7 = omega arith in
    let f : a.self.count - (k + 1) ≡ (a.self.count - k) - 1 = omega arith in
    ap₂ (λ i n. mem a.v (members a.work.now i n)) e f
    ∙ member-turn a.work.now (a.self.group + 7 * k) (a.self.count - k) a.v (omega (arith, c.loop-k-test.true)) (λ q. c.if-v-at.false (q ∙ sym c.at.ensures)) ∙ c.loop-k.invariant

pub returns : goal.returns
returns c = sym (member-end c.args.work.now (c.args.self.group + 7 * c.loop-k.k) (c.args.self.count - c.loop-k.k) c.args.v (omega (arith, c.loop-k-test.false))) ∙ c.loop-k.invariant

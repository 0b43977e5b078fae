-- `mesh::star::Index::has_about` meets its contract. The invariant: the entries counted and those left are all. Assumes nothing.
use Rattle.std.proofs.Common.{◌≡◌, ◌+◌, ◌-◌, sym, ap, ◌∙◌, arith, rules}
use Rattle.mesh.specs.inside.Star.{chain_length}
use Rattle.mesh.proofs.Laws.Star.Layout.{laid-is}
use Rattle.mesh.proofs.Laws.About.Members.{about-no, sum-blocked, sum-full, sum-turn, sum-end}
use Rattle.mesh.proofs.star.Index.has_about.Goals as goal

pub returns-then-not-is_laid : goal.returns-then-not-is_laid
returns-then-not-is_laid c = about-no c.args.self c.args.s.now c.args.from c.args.count c.args.step (sym c.is_laid.ensures ∙ c.if-not-is_laid.true)

pub overflow_sub-most : goal.overflow_sub-most
overflow_sub-most c = let l = laid-is c.args.self _ (sym c.is_laid.ensures ∙ c.if-not-is_laid.false) in omega arith

pub returns-then-contains : goal.returns-then-contains
returns-then-contains c = sum-blocked c.loop.invariant (omega arith) (search rules)

pub returns-then-most-n : goal.returns-then-most-n
returns-then-most-n c = sum-full c.loop.invariant (omega arith) (search rules) _ (c.chain_length-n.ensures.0 ∙ ap (chain_length c.args.self c.args.s.now) c.at-v.ensures) c.if-most-n.true

pub loop-preserved : goal.loop-preserved
loop-preserved c =
    let e : c.args.count - c.loop.counter - 1 ≡ c.args.count - (c.loop.counter + 1) = omega arith in
    rw e at (sum-turn c.loop.invariant (omega arith) (search rules) _ (c.chain_length-n.ensures.0 ∙ ap (chain_length c.args.self c.args.s.now) c.at-v.ensures) c.if-most-n.false _ c.later-p.ensures)

pub returns : goal.returns
returns c = sum-end c.loop.invariant (omega arith)

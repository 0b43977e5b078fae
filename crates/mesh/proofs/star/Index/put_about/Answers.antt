-- `mesh::star::Index::put_about` meets its contract. The invariant: the slots put and those of the members left are all. Assumes nothing.
use Rattle.std.proofs.Common.{◌≡◌, ◌+◌, ◌-◌, refl, arith}
use Rattle.mesh.proofs.Laws.About.Answer.{put-start, put-free, put_count, put-turn, put-end}
use Rattle.mesh.proofs.star.Index.put_about.Goals as goal

pub loop-init : goal.loop-init
loop-init c = let e : c.args.count - 0 ≡ c.args.count = omega arith in rw e (put-start c.args.self c.args.s.now c.args.from c.args.count c.args.step c.requires)

pub put_slots-k-requires : goal.put_slots-k-requires
put_slots-k-requires c = put-free c.loop.invariant (omega arith) _ c.at-v.ensures

pub overflow_add-n : goal.overflow_add-n
overflow_add-n c = let h = put_count c.loop.invariant (omega arith) _ c.at-v.ensures _ _ c.put_slots-k.ensures.0 c.put_slots-k.ensures.1 in omega arith

pub loop-preserved : goal.loop-preserved
loop-preserved c =
    let e : c.args.count - c.loop.counter - 1 ≡ c.args.count - (c.loop.counter + 1) = omega arith in
    rw e at (put-turn c.loop.invariant (omega arith) _ c.at-v.ensures _ _ c.put_slots-k.ensures.0 c.put_slots-k.ensures.1 _ _ refl c.later-p.ensures)

pub returns : goal.returns
returns c = put-end c.loop.invariant (omega arith)

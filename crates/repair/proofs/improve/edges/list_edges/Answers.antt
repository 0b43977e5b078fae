-- `repair::improve::edges::list_edges` meets its contract. Assumes nothing.
use native.Mathlib.Omega.{arith}
use Rattle.mesh.specs.Words.{points_in}
use Rattle.repair.proofs.Laws.Edges.Whole.{list-room, copy-room, edges-listed, edges-kept}
use Rattle.repair.proofs.improve.edges.list_edges.Goals as goal

pub overflow_mul-e : goal.overflow_mul-e
overflow_mul-e c = let h = (list-room c.args.given.now.index c.args.given.now.index.room c.args.work.now c.requires.3.room _ _ c.live_elements-k.ensures.0 c.live_elements-k.ensures.1).1 in omega (arith, h)

pub overflow_add-e : goal.overflow_add-e
overflow_add-e c = let h = list-room c.args.given.now.index c.args.given.now.index.room c.args.work.now c.requires.3.room _ _ c.live_elements-k.ensures.0 c.live_elements-k.ensures.1 in omega (arith, h.0, h.1)

pub slice_bounds-short_edges_in-end : goal.slice_bounds-short_edges_in-end
slice_bounds-short_edges_in-end c = (list-room c.args.given.now.index c.args.given.now.index.room c.args.work.now c.requires.3.room _ _ c.live_elements-k.ensures.0 c.live_elements-k.ensures.1).2

pub overflow_mul-to : goal.overflow_mul-to
overflow_mul-to c = let h = (copy-room c.args.given.now.index c.args.given.now.index.room c.args.work.now c.requires.3.room _ _ c.live_elements-k.ensures.0 c.live_elements-k.ensures.1 (points_in c.args.given.now.points) c.args.limit _ _ c.short_edges_in-r.ensures c.short_edges_in-r.auto.area).0 in omega (arith, h)

pub overflow_add-to : goal.overflow_add-to
overflow_add-to c = let h = list-room c.args.given.now.index c.args.given.now.index.room c.args.work.now c.requires.3.room _ _ c.live_elements-k.ensures.0 c.live_elements-k.ensures.1 in let g = (copy-room c.args.given.now.index c.args.given.now.index.room c.args.work.now c.requires.3.room _ _ c.live_elements-k.ensures.0 c.live_elements-k.ensures.1 (points_in c.args.given.now.points) c.args.limit _ _ c.short_edges_in-r.ensures c.short_edges_in-r.auto.area).0 in omega (arith, h.0, h.1, g)

pub copy_within-requires-clause-in_bounds : goal.copy_within-requires-clause-in_bounds
copy_within-requires-clause-in_bounds c = (copy-room c.args.given.now.index c.args.given.now.index.room c.args.work.now c.requires.3.room _ _ c.live_elements-k.ensures.0 c.live_elements-k.ensures.1 (points_in c.args.given.now.points) c.args.limit _ _ c.short_edges_in-r.ensures c.short_edges_in-r.auto.area).2

pub copy_within-requires-clause-dest_in_bounds : goal.copy_within-requires-clause-dest_in_bounds
copy_within-requires-clause-dest_in_bounds c = let h = copy-room c.args.given.now.index c.args.given.now.index.room c.args.work.now c.requires.3.room _ _ c.live_elements-k.ensures.0 c.live_elements-k.ensures.1 (points_in c.args.given.now.points) c.args.limit _ _ c.short_edges_in-r.ensures c.short_edges_in-r.auto.area in omega (arith, h.1, h.2)

pub returns : goal.returns
returns c = let l = edges-listed c.args.given.now.index c.args.given.now.index.room c.args.work.now c.requires.3.room _ _ c.live_elements-k.ensures.0 c.live_elements-k.ensures.1 (points_in c.args.given.now.points) c.args.limit _ _ c.short_edges_in-r.ensures c.short_edges_in-r.auto.area _ _ _ c.edges_at.ensures (omega arith) c.copy_within.ensures.len c.copy_within.ensures.by_index in record {
  upper_bound = l.0;
  listed = λ m s h e r z. l.1 c.args.given.now.options m s h e r.points z;
  same = edges-kept c.args.given.now.index c.args.given.now.index.room c.args.work.now c.requires.3.room _ _ c.live_elements-k.ensures.0 c.live_elements-k.ensures.1 (points_in c.args.given.now.points) c.args.limit _ _ c.short_edges_in-r.ensures c.short_edges_in-r.auto.area _ _ _ c.edges_at.ensures (omega arith) c.copy_within.ensures.len c.copy_within.ensures.by_index;
}

-- `repair::flip::flip_all` meets its contract: its calls in turn, by the laws of Laws/Flip/Whole. Assumes nothing.
use mathlib.Core.Path.{◌∙◌}
use Rattle.mesh.specs.Words.{points_in}
use Rattle.repair.proofs.Laws.Flip.Whole.{end-room, whole_is}
use Rattle.repair.proofs.flip.flip_all.Goals as goal

pub finish_flip-requires : goal.finish_flip-requires
finish_flip-requires c = end-room c.args.sizes c.args.points.now c.args.elements.now c.args.surface.now c.args.work.now c.requires c.flip_layout-x.result c.flip_layout-x.ensures.0 (points_in c.new.result) c.new.ensures c.begin_flip-l.result c.begin_flip-l.new.work c.begin_flip-l.ensures c.try_faces-t.new.work c.try_faces-t.result c.try_faces-t.ensures.went c.try_edges-u.new.work c.try_edges-u.result c.try_edges-u.ensures.went c.live_elements-k.result c.live_elements-k.ensures.0 c.live_elements-k.new.s c.live_elements-k.ensures.1

pub returns : goal.returns
returns c = c.finish_flip.ensures ∙ whole_is c.args.sizes c.args.points.now c.args.elements.now c.args.surface.now c.args.work.now c.requires c.flip_layout-x.result c.flip_layout-x.ensures.0 (points_in c.new.result) c.new.ensures c.begin_flip-l.result c.begin_flip-l.new.work c.begin_flip-l.ensures c.try_faces-t.new.work c.try_faces-t.result c.try_faces-t.ensures.went c.try_edges-u.new.work c.try_edges-u.result c.try_edges-u.ensures.went c.live_elements-k.result c.live_elements-k.ensures.0 c.live_elements-k.new.s c.live_elements-k.ensures.1

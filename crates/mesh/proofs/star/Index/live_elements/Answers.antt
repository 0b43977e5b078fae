-- `mesh::star::Index::live_elements` meets its contract. The invariant: the live ones of the first e slots stand in the area. Assumes nothing.
use Rattle.std.proofs.Common.{sym, ◌∙◌, arith}
use Rattle.mesh.proofs.Laws.About.Loops.{live-is, live-none, living-start, living-turn, living-end}
use Rattle.mesh.proofs.star.Index.live_elements.Goals as goal

pub returns-then-not-has_live : goal.returns-then-not-has_live
returns-then-not-has_live c = live-none c.args.self c.args.n c.args.s.now (sym c.has_live.ensures ∙ c.if-not-has_live.true)

pub overflow_cast-e-end : goal.overflow_cast-e-end
overflow_cast-e-end c = let r = live-is c.args.self _ c.args.n (sym c.has_live.ensures ∙ c.if-not-has_live.false) in let a = r.1 in let b = r.0.few in omega arith

pub loop-e-init : goal.loop-e-init
loop-e-init c = living-start c.args.self c.args.n c.args.s.now (sym c.has_live.ensures ∙ c.if-not-has_live.false)

pub loop-e-preserved : goal.loop-e-preserved
loop-e-preserved c = living-turn c.loop-e.invariant c.loop-e-test.true _ _ c.put_live-k.ensures.0 c.put_live-k.ensures.1

pub returns : goal.returns
returns c = living-end c.loop-e.invariant c.loop-e-test.false

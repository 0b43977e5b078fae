-- `mesh::star::Index::elements_at` meets its contract. The invariant: the elements of the first i slots stand behind the list. Assumes nothing.
use Rattle.std.proofs.Common.{sym, ◌∙◌}
use Rattle.mesh.proofs.Laws.About.Loops.{elements-none, listing-start, listing-turn, listing-end}
use Rattle.mesh.proofs.star.Index.elements_at.Goals as goal

pub returns-then-not-has_space : goal.returns-then-not-has_space
returns-then-not-has_space c = elements-none c.args.self c.args.n c.args.s.now (sym c.has_space.ensures ∙ c.if-not-has_space.true)

pub loop-i-init : goal.loop-i-init
loop-i-init c = listing-start c.args.self c.args.n c.args.s.now (sym c.has_space.ensures ∙ c.if-not-has_space.false)

pub loop-i-preserved : goal.loop-i-preserved
loop-i-preserved c = listing-turn c.loop-i.invariant c.loop-i-test.true _ c.at.ensures _ c.slot_at-t.ensures _ c.put_row.ensures

pub returns : goal.returns
returns c = listing-end c.loop-i.invariant c.loop-i-test.false

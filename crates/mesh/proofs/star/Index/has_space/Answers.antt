-- `mesh::star::Index::has_space` meets its contract. Assumes nothing.
use Rattle.std.proofs.Common.{sym, ◌∙◌, arith}
use Rattle.mesh.proofs.Laws.Star.Layout.{laid-is}
use Rattle.mesh.proofs.Laws.About.Copies.{space-no, space-test}
use Rattle.mesh.proofs.star.Index.has_space.Goals as goal

pub returns-else-is_laid : goal.returns-else-is_laid
returns-else-is_laid c = c.if-is_laid.false ∙ space-no c.args.self c.args.m c.args.n c.args.w (sym c.is_laid.ensures ∙ c.if-is_laid.false)

pub overflow_sub-result : goal.overflow_sub-result
overflow_sub-result c = let l = laid-is c.args.self c.args.m (sym c.is_laid.ensures ∙ c.if-is_laid.true) in omega arith

pub returns-then-is_laid : goal.returns-then-is_laid
returns-then-is_laid c = space-test c.args.self c.args.m c.args.n c.args.w (sym c.is_laid.ensures ∙ c.if-is_laid.true) (c.requires)

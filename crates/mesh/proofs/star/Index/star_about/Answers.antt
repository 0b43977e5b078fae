-- `mesh::star::Index::star_about` meets its contract: the slots of all members, in order, each once. Assumes nothing.
use Rattle.std.proofs.Common.{sym, ◌∙◌}
use Rattle.mesh.proofs.Laws.About.Answer.{about-none, about-fits, about-is}
use Rattle.mesh.proofs.star.Index.star_about.Goals as goal

pub returns-then-not-has_about : goal.returns-then-not-has_about
returns-then-not-has_about c = about-none c.args.self c.args.s.now c.args.from c.args.count c.args.step (sym c.has_about.ensures ∙ c.if-not-has_about.true)

pub make_distinct-requires : goal.make_distinct-requires
make_distinct-requires c = about-fits c.args.self c.args.s.now c.args.from c.args.count c.args.step (sym c.has_about.ensures ∙ c.if-not-has_about.false) _ _ c.put_about-n.ensures.0 c.put_about-n.ensures.1

pub returns : goal.returns
returns c = about-is c.args.self c.args.s.now c.args.from c.args.count c.args.step (sym c.has_about.ensures ∙ c.if-not-has_about.false) _ _ c.put_about-n.ensures.0 c.put_about-n.ensures.1 _ _ c.make_distinct.ensures.0 c.make_distinct.ensures.1

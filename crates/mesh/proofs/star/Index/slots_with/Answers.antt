-- `mesh::star::Index::slots_with` meets its contract: the slots of the shorter chain that have both, in order, each once. Assumes nothing.
use Rattle.std.proofs.Common.{sym, ◌∙◌}
use Rattle.mesh.proofs.Laws.With.Walk.{with-no, with-free, with-fits, with-is}
use Rattle.mesh.proofs.star.Index.slots_with.Goals as goal

pub returns-then-not-has_with : goal.returns-then-not-has_with
returns-then-not-has_with c = with-no c.args.self c.args.s.now c.args.v c.args.w (sym c.has_with.ensures ∙ c.if-not-has_with.true)

pub put_with-n-requires : goal.put_with-n-requires
put_with-n-requires c = with-free c.args.self c.args.s.now c.args.v c.args.w (sym c.has_with.ensures ∙ c.if-not-has_with.false)

pub make_distinct-requires : goal.make_distinct-requires
make_distinct-requires c = with-fits c.args.self c.args.s.now c.args.v c.args.w (sym c.has_with.ensures ∙ c.if-not-has_with.false) _ _ c.put_with-n.ensures.0 c.put_with-n.ensures.1

pub returns : goal.returns
returns c = with-is c.args.self c.args.s.now c.args.v c.args.w (sym c.has_with.ensures ∙ c.if-not-has_with.false) _ _ c.put_with-n.ensures.0 c.put_with-n.ensures.1 _ _ c.make_distinct.ensures.0 c.make_distinct.ensures.1

-- `mesh::link::edge_passes` meets its contract: an edge from a vertex to itself passes. Assumes nothing.
use Rattle.std.proofs.Common.{◌∙◌, eq-eqb}
use Rattle.mesh.specs.Feature.{strata_in}
use Rattle.mesh.specs.inside.LinkAreas.{tets_of}
use Rattle.mesh.proofs.Laws.LinkRows.Whole.{passes-self, kept-self}
use Rattle.mesh.proofs.link.edge_passes.Goals as goal

pub returns-then-a-b : goal.returns-then-a-b
returns-then-a-b c = (eq-eqb c.args.a c.args.b c.if-a-b.true ∙ passes-self (strata_in c.args.strata) c.args.a c.args.b (tets_of c.args.area.now) c.requires c.if-a-b.true, kept-self c.args.area.now)

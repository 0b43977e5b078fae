-- `mesh::short::Short::push_edges` meets its contract. The invariant: the rows of the edges passed are pushed. Assumes nothing.
use Rattle.std.proofs.Common.{arith}
use Rattle.mesh.specs.Words.{points_in}
use Rattle.mesh.proofs.Laws.Short.Loops.{edges-start, edges-turn}
use Rattle.mesh.proofs.short.Short.push_edges.Goals as goal

pub loop-j-init : goal.loop-j-init
loop-j-init c = edges-start (points_in c.args.self.points) c.args.self.limit c.args.t c.args.p c.args.area.now (c.requires)

pub overflow_add-k : goal.overflow_add-k
overflow_add-k c = omega (arith, (edges-turn (points_in c.args.self.points) c.args.self.limit c.args.t c.args.p c.args.area.now (c.requires) c.loop-j.invariant c.loop-j-test.true c.tet_ends-x.ensures c.edge-e.ensures c.push_edge-k.ensures).few, c.loop-j-test.true)

pub loop-j-preserved : goal.loop-j-preserved
loop-j-preserved c = edges-turn (points_in c.args.self.points) c.args.self.limit c.args.t c.args.p c.args.area.now (c.requires) c.loop-j.invariant c.loop-j-test.true c.tet_ends-x.ensures c.edge-e.ensures c.push_edge-k.ensures

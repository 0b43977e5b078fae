-- `mesh::short::Short::push_edge` meets its contract: one row where the edge is short. Assumes nothing.
use Rattle.mesh.specs.Words.{points_in}
use Rattle.mesh.proofs.Laws.Short.Push.{edge-less, edge-put}
use Rattle.mesh.proofs.short.Short.push_edge.Goals as goal

pub returns-then-length-self : goal.returns-then-length-self
returns-then-length-self c = edge-put (points_in c.args.self.points) c.args.self.limit c.args.e c.args.p c.args.area.now c.edge_length-length.result c.edge_length-length.ensures c.put_row.new.area c.order_bits-bits.result c.high_half.result c.low_half.result c.order_bits-bits.ensures c.high_half.ensures c.low_half.ensures (c.requires) c.if-length-self.true c.put_row.ensures

pub returns : goal.returns
returns c = edge-less (points_in c.args.self.points) c.args.self.limit c.args.e c.args.p c.args.area.now c.edge_length-length.result c.edge_length-length.ensures c.if-length-self.false

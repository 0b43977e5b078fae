-- `mesh::link::boundary::counted_keys` meets its contract, call by call. Assumes nothing.
use Rattle.std.proofs.Common.{refl, rules, tests}
use Rattle.mesh.proofs.Laws.LinkRows.Keys.{tried-counted}
use Rattle.mesh.proofs.link.boundary.counted_keys.Goals as goal

pub returns : goal.returns
returns c = (record { lent = refl; count = refl }, tried-counted c.args.area.now.n c.order_faces.ensures (search (rules, tests)) c.drop_numbers.ensures)

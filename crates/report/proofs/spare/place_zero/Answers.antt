-- `report::spare::place_zero` meets its contract. Assumes nothing.
use Rattle.std.proofs.Common.{◌+◌, ◌*◌, ◌∙◌}
use Rattle.report.specs.Format.{first_field, field_size}
use Rattle.report.specs.Block.{place_zero}
use Rattle.report.proofs.Laws.Spare.{zeros-room}
use Rattle.report.proofs.spare.place_zero.Goals as goal

pub returns : goal.returns
unfolding place_zero
returns c = rw c.used_in.ensures.0 at (c.zeros_to.ensures ∙ zeros-room c.args.s.now (first_field + field_size * c.args.j) c.used_in.result field_size)

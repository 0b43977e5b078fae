-- `mesh::intake::check_settings` meets its contract, call by call. Assumes nothing.
use Rattle.mesh.proofs.Laws.Intake.Chains.{fails_by, holds_by}
use Rattle.std.proofs.Common.{ap, not}
use Rattle.mesh.proofs.Laws.Intake.Table.{number-10, number-11, settings-pass}
use Rattle.mesh.proofs.intake.check_settings.Goals as goal

pub returns-then-not-room : goal.returns-then-not-room
returns-then-not-room c = number-10 c.args.s.sizes c.args.l c.args.s.options c.args.s.count c.args.fields (fails_by c.room.ensures (ap not c.if-not-room.true))

pub returns-then-not-settings_in : goal.returns-then-not-settings_in
returns-then-not-settings_in c = number-11 c.args.s.sizes c.args.l c.args.s.options c.args.s.count c.args.fields (holds_by c.room.ensures (ap not c.if-not-room.false)) (fails_by c.settings_in.ensures (ap not c.if-not-settings_in.true))

pub returns : goal.returns
returns c = settings-pass c.args.s.sizes c.args.l c.args.s.options c.args.s.count c.args.fields (holds_by c.room.ensures (ap not c.if-not-room.false)) (holds_by c.settings_in.ensures (ap not c.if-not-settings_in.false))

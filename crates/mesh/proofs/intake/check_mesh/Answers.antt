-- `mesh::intake::check_mesh` meets its contract, call by call; the work is 0 again behind the test of 14. Assumes nothing.
use Rattle.std.proofs.Common.{◌*◌, ◌∙◌}
use Rattle.std.proofs.Common.{ap, not}
use Rattle.mesh.proofs.Laws.Intake.Chains.{fails_by, holds_by}
use Rattle.mesh.specs.Words.{points_in}
use Rattle.mesh.specs.Element.{tets}
use Rattle.mesh.proofs.Laws.Intake.Different.{different-neighbours}
use Rattle.mesh.proofs.Laws.Intake.Table.{number-12, number-13, number-14, number-15, mesh-pass, zeros-again}
use Rattle.mesh.proofs.intake.check_mesh.Goals as goal

pub returns-then-not-vertices_in-clause-value : goal.returns-then-not-vertices_in-clause-value
returns-then-not-vertices_in-clause-value c =
    number-12 c.args.points.count c.args.b (points_in c.args.parameters) (points_in c.args.points) (tets c.args.n c.args.elements.now) (fails_by c.vertices_in.ensures (ap not c.if-not-vertices_in.true))

pub returns-then-not-elements_in-clause-value : goal.returns-then-not-elements_in-clause-value
returns-then-not-elements_in-clause-value c =
    number-13 c.args.points.count c.args.b (points_in c.args.parameters) (points_in c.args.points) (tets c.args.n c.args.elements.now) (holds_by c.vertices_in.ensures (ap not c.if-not-vertices_in.false)) (fails_by c.elements_in.ensures (ap not c.if-not-elements_in.true))

pub returns-then-not-all_different : goal.returns-then-not-all_different
returns-then-not-all_different c =
    record { value = number-14 c.args.points.count c.args.b (points_in c.args.parameters) (points_in c.args.points) (tets c.args.n c.args.elements.now) (holds_by c.vertices_in.ensures (ap not c.if-not-vertices_in.false)) (holds_by c.elements_in.ensures (ap not c.if-not-elements_in.false)) (different-neighbours c.args.points.count (tets c.args.n c.args.elements.now) (holds_by c.elements_in.ensures (ap not c.if-not-elements_in.false)) ∙ fails_by c.all_different.ensures.value (ap not c.if-not-all_different.true)); work_after = zeros-again (8 * c.args.n) c.args.work.now c.all_different.new.work c.requires.elements_bound.1 c.requires.work_value c.all_different.ensures.work_after }

pub returns-then-not-all_upright : goal.returns-then-not-all_upright
returns-then-not-all_upright c =
    record { value = number-15 c.args.points.count c.args.b (points_in c.args.parameters) (points_in c.args.points) (tets c.args.n c.args.elements.now) (holds_by c.vertices_in.ensures (ap not c.if-not-vertices_in.false)) (holds_by c.elements_in.ensures (ap not c.if-not-elements_in.false)) (different-neighbours c.args.points.count (tets c.args.n c.args.elements.now) (holds_by c.elements_in.ensures (ap not c.if-not-elements_in.false)) ∙ holds_by c.all_different.ensures.value (ap not c.if-not-all_different.false)) (fails_by c.all_upright.ensures (ap not c.if-not-all_upright.true)); work_after = zeros-again (8 * c.args.n) c.args.work.now c.all_different.new.work c.requires.elements_bound.1 c.requires.work_value c.all_different.ensures.work_after }

pub returns : goal.returns
returns c =
    record { value = mesh-pass c.args.points.count c.args.b (points_in c.args.parameters) (points_in c.args.points) (tets c.args.n c.args.elements.now) (holds_by c.vertices_in.ensures (ap not c.if-not-vertices_in.false)) (holds_by c.elements_in.ensures (ap not c.if-not-elements_in.false)) (different-neighbours c.args.points.count (tets c.args.n c.args.elements.now) (holds_by c.elements_in.ensures (ap not c.if-not-elements_in.false)) ∙ holds_by c.all_different.ensures.value (ap not c.if-not-all_different.false)) (holds_by c.all_upright.ensures (ap not c.if-not-all_upright.false)); work_after = zeros-again (8 * c.args.n) c.args.work.now c.all_different.new.work c.requires.elements_bound.1 c.requires.work_value c.all_different.ensures.work_after }

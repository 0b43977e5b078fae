-- `repair::improve::collapse_edges` meets its contract: its calls in turn, by the laws of Laws/Passed. Assumes nothing.
use mathlib.Core.Path.{sym, ap, subst, ◌∙◌}
use lib.ListN.{length, take}
use Rattle.mesh.specs.Words.{points_in}
use Rattle.repair.specs.inside.Layout.{Room, Reads}
use Rattle.mesh.proofs.Laws.Intake.Reads.{length-points}
use Rattle.repair.proofs.Laws.Passed.{begun-ready, rounded, collapsed}
use Rattle.repair.proofs.improve.collapse_edges.Goals as goal

pub begin-requires-clause-room : goal.begin-requires-clause-room
begin-requires-clause-room c = let r = c.layout-x.ensures.1 _ c.requires.0.long in subst (λ u. Room c.layout-x.result u (length c.args.work.now)) (sym r.room) r

pub begin-requires-clause-many : goal.begin-requires-clause-many
begin-requires-clause-many c = let a = c.args in ap length c.new.ensures ∙ length-points a.sizes.vertices a.mesh.now.parameters.now ∙ sym c.layout-x.ensures.0

pub rounds-requires : goal.rounds-requires
rounds-requires c =
    (begun-ready c.args.o c.layout-x.result c.begin.new.work c.args.mesh.now.elements.now _ _ _ c.begin.ensures, c.requires.0.passes)

pub returns : goal.returns
returns c =
    let a = c.args in
    let x = c.layout-x.result in
    let many = c.layout-x.ensures.0 in
    let all = (c.layout-x.ensures.1 _ c.requires.0.long).room in
    let l = c.live_elements in
    λ m v.
    let r : Reads m (points_in c.new.result) (points_in c.new-2.result) (take a.sizes.vertices a.mesh.now.masks.now) =
    record { parameters = v.parameters ∙ sym c.new.ensures; points = v.points ∙ sym c.new-2.ensures; masks = v.masks } in
    let g = rounded a.sizes a.mesh.now.elements.now x many all a.o m _ _ _ r c.begin.new.work c.rounds.new.work c.rounds.result c.begin.ensures c.rounds.ensures in
    collapsed a.sizes a.mesh.now.elements.now x many all a.o m _ c.rounds.new.work l.new.s g.0 l.result l.ensures.0 l.ensures.1 c.rounds.result g.1

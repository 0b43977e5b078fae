-- `repair::improve::round::round` meets its contract. Assumes nothing.
use Prim.Native.Nat.{◌+◌, ◌<◌}
use native.Mathlib.Omega.{arith}
use mathlib.Core.Path.{sym, subst, ◌∙◌}
use Rattle.repair.specs.Mesh.{Mesh}
use Rattle.repair.specs.Improve.{State}
use Rattle.repair.specs.inside.Layout.{Stands, Reads}
use Rattle.repair.specs.inside.improve.Round.{MayPair}
use Rattle.mesh.specs.Words.{points_in}
use Rattle.repair.proofs.Laws.Round.{way-item, edges-first, edges-second, ways-start, ways-end, ways-ready, ways-below, ways-none, pairs_start, pairs-ready, pairs-proper, pair-below, pairs-fail, pairs_next, gain-fails, gain-proper, gain-made, edges-end}
use Rattle.repair.proofs.improve.round.round.Goals as goal
use Rattle.repair.proofs.improve.round.round.Goals.{then-not-is_active-via-then-not-is_active, then-not-is_active-via-else-not-is_active+then-not-is_active-2}

pub edges-preserved-then-not-is_active : goal.edges-preserved-then-not-is_active
edges-preserved-then-not-is_active c =
    elim c.then-not-is_active.branch [
      | then-not-is_active-via-then-not-is_active w ↦ edges-first _ _ _ _ _ _ _ _ _ _ _ _ c.edges.invariant c.edges-test.true c.edge_at-e.ensures.0 c.edge_at-e.ensures.1 (sym c.is_active.ensures ∙ w.if-not-is_active.true)
      | then-not-is_active-via-else-not-is_active+then-not-is_active-2 w ↦ edges-second _ _ _ _ _ _ _ _ _ _ _ _ c.edges.invariant c.edges-test.true c.edge_at-e.ensures.0 c.edge_at-e.ensures.1 (sym w.is_active-else-not-is_active.ensures ∙ w.if-not-is_active-2.true)
    ]

pub directions-init : goal.directions-init
directions-init c = ways-start _ _ _ _ _ _ _ _ _ _ _ _ c.edges.invariant c.edges-test.true c.edge_at-e.ensures.0 c.edge_at-e.ensures.1 (sym c.is_active.ensures ∙ c.if-not-is_active.false) (sym c.is_active-else-not-is_active.ensures ∙ c.if-not-is_active-2.false)

pub edges-preserved : goal.edges-preserved
edges-preserved c = ways-end _ _ _ _ _ _ _ _ _ _ _ _ _ c.directions.invariant c.directions-test.false

pub may_pair-requires : goal.may_pair-requires
may_pair-requires c =
    let b = ways-below _ _ _ _ _ _ _ _ _ _ _ _ _ c.directions.invariant (c.directions.t-index + 1) in
    (ways-ready _ _ _ _ _ _ _ _ _ _ _ _ _ c.directions.invariant, subst (λ t. t.a < c.args.given.now.index.vertices) (sym (way-item _ _ c.directions.t-index c.directions-test.true)) b.0, subst (λ t. t.b < c.args.given.now.index.vertices) (sym (way-item _ _ c.directions.t-index c.directions-test.true)) b.1)

pub directions-preserved-in_default : goal.directions-preserved-in_default
directions-preserved-in_default c = ways-none _ _ _ _ _ _ _ _ _ _ _ _ _ c.directions.invariant _ _ c.directions-test.true (subst (λ t. (m : Mesh) (s : State) → Reads m (points_in c.args.given.now.parameters) (points_in c.args.given.now.points) c.args.given.now.masks.now → Stands c.args.given.now.options m c.args.given.now.index c.args.given.now.index.room c.directions.work s → MayPair c.args.given.now.options m c.args.given.now.index c.args.given.now.index.room s t.a t.b c.directions.work c.may_pair.new.work c.may_pair.result) (way-item _ _ c.directions.t-index c.directions-test.true) c.may_pair.ensures) c.in_default.is

pub loop-p-init : goal.loop-p-init
loop-p-init c = pairs_start _ _ _ _ _ _ _ _ _ _ _ _ _ c.directions.invariant _ _ c.directions-test.true (subst (λ t. (m : Mesh) (s : State) → Reads m (points_in c.args.given.now.parameters) (points_in c.args.given.now.points) c.args.given.now.masks.now → Stands c.args.given.now.options m c.args.given.now.index c.args.given.now.index.room c.directions.work s → MayPair c.args.given.now.options m c.args.given.now.index c.args.given.now.index.room s t.a t.b c.directions.work c.may_pair.new.work c.may_pair.result) (way-item _ _ c.directions.t-index c.directions-test.true) c.may_pair.ensures) _ c.in-Some.is

pub pair_ok-requires : goal.pair_ok-requires
pair_ok-requires c =
    let h = c.loop-p.invariant in
    let b = pair-below _ _ _ _ _ _ _ _ _ _ _ _ _ _ _ h c.loop-p-test.true in
    let r = pairs-ready _ _ _ _ _ _ _ _ _ _ _ _ _ _ _ h in
    (r, (let m = h.most in let t = c.loop-p-test.true in omega arith), b.0, b.1)

pub directions-preserved-then-not-pair_ok : goal.directions-preserved-then-not-pair_ok
directions-preserved-then-not-pair_ok c = pairs-fail _ _ _ _ _ _ _ _ _ _ _ _ _ _ _ c.loop-p.invariant _ _ c.loop-p-test.true c.pair_ok.ensures.same c.pair_ok.ensures.value c.if-not-pair_ok.true

pub loop-p-preserved : goal.loop-p-preserved
loop-p-preserved c = pairs_next _ _ _ _ _ _ _ _ _ _ _ _ _ _ _ c.loop-p.invariant _ _ c.loop-p-test.true c.pair_ok.ensures.same c.pair_ok.ensures.value c.if-not-pair_ok.false

pub gains-requires : goal.gains-requires
gains-requires c = (pairs-ready _ _ _ _ _ _ _ _ _ _ _ _ _ _ _ c.loop-p.invariant, pairs-proper _ _ _ _ _ _ _ _ _ _ _ _ _ _ _ c.loop-p.invariant)

pub directions-preserved : goal.directions-preserved
directions-preserved c = gain-fails _ _ _ _ _ _ _ _ _ _ _ _ _ _ _ c.loop-p.invariant _ _ c.loop-p-test.false c.gains.ensures.same c.gains.ensures.value c.if-not-gains.true

pub edges-preserved-in-directions : goal.edges-preserved-in-directions
edges-preserved-in-directions c = gain-made _ _ _ _ _ _ _ _ _ _ _ _ _ _ _ c.loop-p.invariant _ _ c.loop-p-test.false c.gains.ensures.same c.gains.ensures.value c.if-not-gains.false _ (c.replace_all.ensures (gain-proper _ _ _ _ _ _ _ _ _ _ _ _ _ _ _ c.loop-p.invariant _ _ c.loop-p-test.false c.gains.ensures.same c.gains.ensures.value))

pub returns-clause-stands : goal.returns-clause-stands
returns-clause-stands c = edges-end _ _ _ _ _ _ _ _ _ _ _ c.edges.invariant c.edges-test.false

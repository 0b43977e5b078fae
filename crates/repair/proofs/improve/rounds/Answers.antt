-- `repair::improve::rounds` meets its contract. Assumes nothing.
use mathlib.Core.Path.{refl, ap, ◌∙◌}
use lib.Ieee.{of_bits}
use native.Mathlib.Omega.{arith}
use Rattle.geometry.specs.Float.{◌*₆₄◌}
use Rattle.geometry.specs.Literals.{three_quarters}
use Rattle.geometry.specs.Bounds.{spacing}
use Rattle.repair.proofs.Laws.Round.{above-none}
use Rattle.repair.proofs.Laws.Rounds.{rounds-start, rounds-ready, listed-ready, listed_below, rounds-idle, rounds-next, rounds-done}
use Rattle.repair.proofs.improve.rounds.Goals as goal

pub loop-made-init : goal.loop-made-init
unfolding of_bits
loop-made-init c = (rounds-start _ _ _ _ _ _ _ c.requires.0 c.requires.1 _ (omega arith), ap (λ u. three_quarters *₆₄ u) c.spacing-limit.ensures, refl)

pub list_edges-count-requires : goal.list_edges-count-requires
list_edges-count-requires c = rounds-ready _ _ _ _ _ _ _ _ _ _ c.loop-made.invariant.0

pub round-k-requires : goal.round-k-requires
round-k-requires c = (listed-ready _ _ _ _ _ _ _ _ _ _ c.loop-made.invariant.0 _ _ c.list_edges-count.ensures.same (λ m s r z. c.list_edges-count.ensures.listed m s (spacing c.args.given.now.options) c.loop-made.invariant.1 r z), c.list_edges-count.ensures.upper_bound, listed_below _ _ _ _ _ _ _ _ _ _ c.loop-made.invariant.0 _ _ c.list_edges-count.ensures.same (λ m s r z. c.list_edges-count.ensures.listed m s (spacing c.args.given.now.options) c.loop-made.invariant.1 r z))

pub returns-then-k-eq0 : goal.returns-then-k-eq0
returns-then-k-eq0 c = rounds-idle _ _ _ _ _ _ _ _ _ _ c.loop-made.invariant.0 _ _ c.list_edges-count.ensures.same (λ m s r z. c.list_edges-count.ensures.listed m s (spacing c.args.given.now.options) c.loop-made.invariant.1 r z) _ _ (omega arith) c.round-k.ensures.stands c.if-k-eq0.true

pub loop-made-preserved : goal.loop-made-preserved
loop-made-preserved c = (rounds-next _ _ _ _ _ _ _ _ _ _ c.loop-made.invariant.0 _ _ c.list_edges-count.ensures.same (λ m s r z. c.list_edges-count.ensures.listed m s (spacing c.args.given.now.options) c.loop-made.invariant.1 r z) _ _ (omega arith) c.round-k.ensures.stands (above-none _ c.if-k-eq0.false) (let a = c.round-k.ensures.upper_bound in let b = c.list_edges-count.ensures.upper_bound in let d = (rounds-ready _ _ _ _ _ _ _ _ _ _ c.loop-made.invariant.0).3.room.elements in omega arith) _ (let t = c.loop-made-test.true in omega arith), c.loop-made.invariant.1, c.round-k.auto.work ∙ c.list_edges-count.auto.work ∙ c.loop-made.invariant.2)

pub returns : goal.returns
returns c = rounds-done _ _ _ _ _ _ _ _ _ _ c.loop-made.invariant.0 (let t = c.loop-made-test.false in omega arith)

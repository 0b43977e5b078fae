-- `repair::improve::rounds` meets its contract. Assumes nothing.
use mathlib.Core.Path.{◌≡◌}
use Prim.Native.Nat.{◌-◌}
use lib.ListN.{length}
use Rattle.geometry.specs.Float.{◌*₆₄◌}
use Rattle.geometry.specs.Literals.{three_quarters}
use Rattle.geometry.specs.Bounds.{spacing}
use Rattle.mesh.specs.Words.{points_in}
use Rattle.repair.proofs.Laws.Rounds.{AtRound}
use Rattle.repair.proofs.improve.rounds.Given as goal

abbrev pub invariant-loop-made : goal.invariant-loop-made
invariant-loop-made l =
    AtRound l.given.options l.given.index l.given.index.room l.initial.work (points_in l.given.parameters) (points_in l.given.points) l.given.masks.now l.work l.replaced (l.given.options.passes - l._made) × (l.limit ≡ three_quarters *₆₄ spacing l.given.options) × (length l.work ≡ length l.initial.work)

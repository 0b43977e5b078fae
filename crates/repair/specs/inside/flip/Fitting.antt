-- A mesh that passed intake, as `flip` finds it in its buffers, and what the pass leaves there. For the contracts of private functions;
-- definitions only.
use Rattle.std.specs.Prelude.{ℕ, ◌+◌, ◌*◌, ◌≤◌, ◌≡◌, true, List, Float, length}
use Rattle.mesh.specs.declared.intake.Sizes.{Sizes}
use Rattle.mesh.specs.Words.{points_of}
use Rattle.mesh.specs.Tests.{every}
use Rattle.mesh.specs.Element.{tets, triples}
use Rattle.mesh.specs.Intake.{well_numbered}
use Rattle.mesh.specs.Measure.{measure}
use Rattle.repair.specs.Step.{Answer}
use Rattle.repair.specs.Flip.{State, live, flips}
use Rattle.repair.specs.inside.flip.Finish.{flip_end}

-- counts within their limits, buffers long enough, elements with four different vertices
pub record FlipFitting (z : Sizes) (es ss work : List ℕ) : Type 0 where
  pub vertices : z.vertices ≤ 4096
  pub elements : z.elements ≤ 16384
  pub triples : z.triples ≤ 4 * z.elements
  pub slots : 8 * z.elements ≤ length es
  pub surface : 12 * z.elements ≤ length ss
  pub long : 256 * z.elements + 32 * z.vertices + 1024 ≤ length work
  pub numbered : every (well_numbered z.vertices) (tets z.elements es) ≡ true

-- where the trials end
abbrev pub flip_last : Sizes → List Float → List ℕ → State
flip_last z points es = flips (measure (points_of z.vertices points)) (tets z.elements es)

-- the answer, the elements' buffer and the surface's
unfoldable pub flip_whole : Sizes → List Float → List ℕ → List ℕ → Answer × List ℕ × List ℕ
flip_whole z points es ss =
    let s = flip_last z points es in
    flip_end s.flips z.vertices (triples z.triples ss) (live s.slots) es ss

-- A mesh that passed intake, as the rounds of `improve` find it in its buffers, and what they leave in the work slice. For the contracts of
-- private functions; definitions only.
use Rattle.std.specs.Prelude.{ℕ, ◌+◌, ◌*◌, ◌≤◌, ◌≡◌, true, List, [], length, drop}
use Rattle.geometry.specs.declared.bounds.Options.{Options}
use Rattle.mesh.specs.declared.intake.Sizes.{Sizes}
use Rattle.mesh.specs.declared.element.Tet.{Tet}
use Rattle.mesh.specs.Words.{zero_words}
use Rattle.mesh.specs.Tests.{every}
use Rattle.mesh.specs.Element.{tets}
use Rattle.mesh.specs.Intake.{well_numbered}
use Rattle.mesh.specs.Measure.{measure}
use Rattle.repair.specs.declared.improve.Rest.{Rest}
use Rattle.repair.specs.Mesh.{Mesh}
use Rattle.repair.specs.Improve.{State, rounds}
use Rattle.repair.specs.inside.improve.Renumber.{EndArea}

-- counts within their limits, elements with four different vertices, work long enough and of zeros
pub record Fitting (o : Options) (z : Sizes) (es work : List ℕ) : Type 0 where
  pub vertices : z.vertices ≤ 4096
  pub elements : z.elements ≤ 16384
  pub passes : o.passes ≤ 16
  pub slots : 4 * z.elements ≤ length es
  pub numbered : every (well_numbered z.vertices) (tets z.elements es) ≡ true
  pub long : 256 * z.elements + 32 * z.vertices + 1024 ≤ length work
  pub zeros : work ≡ zero_words (length work)

-- where the rounds begin, and where they end
abbrev pub before_rounds : List Tet → State
before_rounds ts = record { elements = ts; replaced = [] }

abbrev pub after_rounds : Options → Mesh → List Tet → State
after_rounds o m ts = rounds o m (measure m.points) o.passes (before_rounds ts)

-- how many vertices are replaced, and the elements of the state s in an area as the end of `improve` asks
pub record Collapsed (z : Sizes) (s : State) (work : List ℕ) (r : Rest) : Type 0 where
  pub replaced : r.replaced ≡ length s.replaced
  pub elements : tets r.elements (drop r.area work) ≡ s.elements
  pub few : r.elements ≤ z.elements
  pub low : r.area ≤ 1048576
  pub inside : r.area ≤ length work
  pub ready : EndArea r.elements z.vertices (drop r.area work)

-- What a caller gets from a pass and from the boundary: the number returned and what every lent buffer holds afterwards. Definitions only.
use Rattle.std.specs.Prelude.{ℕ, List, Float}
use Rattle.mesh.specs.Words.{zero_words, zero_floats}
use Rattle.mesh.specs.Intake.{refusal_of}
use Rattle.mesh.specs.Surface as surface
use Rattle.repair.specs.Step.{Answer}
use Rattle.repair.specs.Step.{State, Call, step, number_of, values_of, over}

-- ---- a pass

-- the number returned, the result's places, the mesh buffers and both work slices
pub record Returned : Type 0 where
  pub number : ℕ
  pub result : List ℕ
  pub parameters : List Float
  pub points : List Float
  pub masks : List ℕ
  pub elements : List ℕ
  pub surface : List ℕ
  pub words : List ℕ
  pub floats : List Float

-- an answer and a mesh, with zeros in work slices of w words and f floats. The four places of a result have its values, and zeros after a
-- refusal, which "returns its number alone"
abbrev pub returned : ℕ → ℕ → Answer × State → Returned
returned w f r = record {
  number = number_of r.0;
  result = over (values_of r.0) (zero_words 4);
  parameters = r.1.parameters;
  points = r.1.points;
  masks = r.1.masks;
  elements = r.1.elements;
  surface = r.1.surface;
  words = zero_words w;
  floats = zero_floats f;
}

-- a call of a pass: `step`, and "Work slices hold zeros after every call"
abbrev pub called : Call → State → Returned
called c s = returned c.words c.floats (step c s)

-- ---- the boundary

-- the number returned, how many triples, the surface buffer and the work slice
pub record Bounded : Type 0 where
  pub number : ℕ
  pub triples : ℕ
  pub surface : List ℕ
  pub words : List ℕ

-- what a call of `boundary` leaves
abbrev pub bounded : surface.Call → Bounded
bounded c = record { number = refusal_of c.answer; triples = surface.triples_of c.answer; surface = c.surface; words = c.work }

-- A call of a pass on whole buffers (document 01, "Runs of passes", "Where each number is given"): intake, the pass on values, and what the
-- buffers hold afterwards. Then lists of calls. Definitions only.
use Rattle.std.specs.Prelude.{ℕ, ◌+◌, Bool, true, false, cond, List, [], ◌∷◌, ◌++◌, eqb, Float, length, take, drop}
use Rattle.std.specs.Prelude as Code
use Rattle.std.proofs.Math.Option.{Option, none, some}
use Rattle.std.proofs.Common.{Bor}
use Rattle.geometry.specs.declared.point.Point.{Point}
use Rattle.geometry.specs.declared.bounds.Options.{Options}
use Rattle.geometry.specs.declared.field.Field.{Field}
use Rattle.mesh.specs.declared.intake.Sizes.{Sizes}
use Rattle.mesh.specs.Words.{points_of}
use Rattle.mesh.specs.Element.{tets, triples, all_vertices, all_corners}
use Rattle.mesh.specs.declared.intake.Settings.{Settings}
use Rattle.mesh.specs.declared.intake.Lengths.{Lengths}
use Rattle.mesh.specs.Intake.{Given, intake}
use Rattle.repair.specs.Mesh.{Mesh, Result, made, refused}
use Rattle.repair.specs.Improve
use Rattle.repair.specs.Smooth
use Rattle.repair.specs.Flip

-- "A list in demand 3 works on one mesh: vertices, elements and surface in their buffers, with their sizes"
pub record State : Type 0 where
  pub parameters : List Float
  pub points : List Float
  pub masks : List ℕ
  pub elements : List ℕ
  pub surface : List ℕ
  pub sizes : Sizes

pub data Pass : Type 0 where
  improve smooth flip : Pass

-- a call's other inputs: "box, fields, regions and work may be new each time". `count` says how many fields there are; of the work only
-- the lengths of its two slices count.
pub record Call : Type 0 where
  pub pass : Pass
  pub options : Options
  pub fields : List Field
  pub count : ℕ
  pub regions : Option (List ℕ)
  pub words : ℕ
  pub floats : ℕ

-- ---- what is lent

-- the buffers of a mesh, with its sizes
abbrev pub held : Sizes → List Float → List Float → List ℕ → List ℕ → List ℕ → State
held sizes parameters points masks elements surface =
    record { parameters = parameters; points = points; masks = masks; elements = elements; surface = surface; sizes = sizes }

-- the other inputs of a call, with the two slices of its work
abbrev pub call_of : Pass → Settings → List Field → Option (List ℕ) → List ℕ → List Float → Call
call_of pass s fields regions work floats =
    record { pass = pass; options = s.options; fields = fields; count = s.count; regions = regions; words = length work; floats = length floats }

-- "an absent list and an empty list are different": none where no list is given
abbrev pub regions_of : Bool → List ℕ → Option (List ℕ)
regions_of false regions = none
regions_of true regions = some regions

-- the same of the list that the code is lent, if one is
abbrev pub regions_in : Code.Option (Bor (List ℕ)) → Option (List ℕ)
regions_in Code.None = none
regions_in (Code.Some regions) = some regions.now

-- ---- the answer

-- done with a count and the sizes of the mesh, or refused with a number
pub data Answer : Type 0 where
  Done : ℕ → Sizes → Answer
  Refused : ℕ → Answer

-- "gives its result or one number of document 01's table": the number, 0 with a result
abbrev pub number_of : Answer → ℕ
number_of (Done count sizes) = 0
number_of (Refused number) = number

-- the result's values: the count and the three sizes; "A refusal returns its number alone"
abbrev pub values_of : Answer → List ℕ
values_of (Done count sizes) = count ∷ sizes.vertices ∷ sizes.elements ∷ sizes.triples ∷ []
values_of (Refused number) = []

-- an answer as this paper's number and values, with the mesh
unfoldable pub in_numbers : Answer × State → ℕ × List ℕ × State
in_numbers x = (number_of x.0, values_of x.0, x.1)

-- the sizes that the mesh has after an answer: "A call that gives a count hands on what it made, a refused one what it got"
abbrev pub sizes_after : Answer → Sizes → Sizes
sizes_after (Done count sizes) z = sizes
sizes_after (Refused number) z = z

-- ---- buffers and values

-- the mesh in the buffers
unfoldable pub mesh_of : State → Mesh
mesh_of s = record {
  parameters = points_of s.sizes.vertices s.parameters;
  points = points_of s.sizes.vertices s.points;
  masks = take s.sizes.vertices s.masks;
  elements = tets s.sizes.elements s.elements;
  surface = triples s.sizes.triples s.surface;
}

-- the floats of points
unfoldable pub floats_of : List Point → List Float
floats_of [] = []
floats_of (p ∷ ps) = p.x ∷ p.y ∷ p.z ∷ floats_of ps

-- new values at the front, and "each place past the new counts keeps what it held"
abbrev pub over : {A : Type 0} → List A → List A → List A
over new old = new ++ drop (length new) old

abbrev pub sizes_of : Mesh → Sizes
sizes_of m = record { vertices = length m.points; elements = length m.elements; triples = length m.surface }

-- the buffers with a mesh put into them
unfoldable pub committed : Mesh → State → State
committed m s = record {
  parameters = over (floats_of m.parameters) s.parameters;
  points = over (floats_of m.points) s.points;
  masks = over m.masks s.masks;
  elements = over (all_vertices m.elements) s.elements;
  surface = over (all_corners m.surface) s.surface;
  sizes = sizes_of m;
}

-- ---- a call

-- how long the lent slices are
abbrev pub lengths_of : Call → State → Lengths
lengths_of c s = record {
  parameters = length s.parameters;
  points = length s.points;
  masks = length s.masks;
  elements = length s.elements;
  surface = length s.surface;
  words = c.words;
  floats = c.floats;
}

-- what intake sees
unfoldable pub given : Lengths → Call → State → Given
given l c s = record {
  sizes = s.sizes;
  lengths = l;
  options = c.options;
  count = c.count;
  fields = c.fields;
  parameters = (mesh_of s).parameters;
  points = (mesh_of s).points;
  elements = (mesh_of s).elements;
}

-- the pass on values
unfoldable pub result_of : Pass → Call → Mesh → Result
result_of improve c m = Improve.improve c.options m
result_of smooth c m = Smooth.smooth c.options (take c.count c.fields) c.regions m
result_of flip c m = Flip.flip m

-- "the mesh buffers hold what they held" after a refusal
abbrev pub finish : State → Result → Answer × State
finish s (made count m) = (Done count (sizes_of m), committed m s)
finish s (refused number) = (Refused number, s)

-- "The three passes run the whole intake"
unfoldable pub step : Call → State → Answer × State
step c s =
    let number = intake (given (lengths_of c s) c s) in
    finish s (cond (eqb number 0) (result_of c.pass c (mesh_of s)) (refused number))

-- ---- lists of calls

-- "A call that gives a count hands on what it made, a refused one what it got"
unfoldable pub run : List Call → State → State
run [] s = s
run (c ∷ cs) s = run cs (step c s).1

-- the count that an `improve` gave, 0 for a refusal and for the other passes
abbrev pub improve_count : Pass → Answer → ℕ
improve_count improve (Done count sizes) = count
improve_count improve (Refused number) = 0
improve_count smooth a = 0
improve_count flip a = 0

-- "the sum of the counts that the list's `improve` calls gave"
unfoldable pub improve_counts : List Call → State → ℕ
improve_counts [] s = 0
improve_counts (c ∷ cs) s = improve_count c.pass (step c s).0 + improve_counts cs (step c s).1

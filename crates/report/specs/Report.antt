-- What `plot` prints, for every byte string (document 01, "Block": "`plot` takes at most 24 vertices and 24 elements, computes the surface, runs
-- `improve`, `smooth`, `flip` once with no regions, and prints"). Definitions only.
use Rattle.std.specs.Prelude.{ℕ, ◌+◌, ◌*◌, ◌/◌, List, map, length, take}
use Rattle.geometry.specs.declared.point.Point.{Point}
use Rattle.geometry.specs.declared.field.Field.{Field}
use Rattle.mesh.specs.declared.element.Tet.{Tet}
use Rattle.mesh.specs.Words.{zero_words, zero_floats}
use Rattle.mesh.specs.Complex.{alternating}
use Rattle.mesh.specs.Element.{tets, vertices_of}
use Rattle.mesh.specs.Surface.{triples_of, answer_of, surface_words}
use Rattle.repair.specs.Step.{State, over, mesh_of}
use Rattle.report.specs.Run.{Ran}
use Rattle.report.specs.Run.{Finished, Stopped}
use Rattle.report.specs.Format.{most_vertices, most_elements}
use Rattle.report.specs.Block.{Plot, Reading, refused, read, reading}
use Rattle.report.specs.Run.{Setting, run_passes}
use Rattle.report.specs.Table.{Table, refused_text, table_text, inside_count, low_count}

-- ---- buffers

-- 3 floats a vertex
abbrev pub point_room : ℕ
point_room = 3 * most_vertices

-- a mask a vertex
abbrev pub mask_room : ℕ
mask_room = most_vertices

-- how many elements `flip` makes at most: half as many again
abbrev pub most_made : ℕ
most_made = most_elements + most_elements / 2

-- 4 words an element, for twice as many
abbrev pub element_room : ℕ
element_room = 4 * (2 * most_made)

-- 4 triples an element
abbrev pub surface_room : ℕ
surface_room = 3 * (4 * most_made)

-- "256 32-bit words an element + 32 a vertex + 1,024"
abbrev pub word_room : ℕ
word_room = 256 * most_elements + 32 * most_vertices + 1024

-- "16 f64 a vertex"
abbrev pub float_room : ℕ
float_room = 16 * most_vertices

-- buffers that hold zeros
unfoldable pub blank : State
blank = record {
  parameters = zero_floats point_room;
  points = zero_floats point_room;
  masks = zero_words mask_room;
  elements = zero_words element_room;
  surface = zero_words surface_room;
  sizes = record { vertices = 0; elements = 0; triples = 0 };
}

-- buffers with the vertices and elements of a plot over what they held, and with the surface of these elements: their boundary, and no
-- triple where 16 or 17 applies, which is for intake to say
unfoldable pub placed : Plot → State → State
placed p s =
    let ts = tets p.elements (over p.corners s.elements) in
    record {
      parameters = over p.parameters s.parameters;
      points = over p.points s.points;
      masks = over p.masks s.masks;
      elements = over p.corners s.elements;
      surface = over (surface_words ts) s.surface;
      sizes = record { vertices = p.vertices; elements = p.elements; triples = triples_of (answer_of ts) };
    }

-- ---- the text

-- "sizes after the run; the three counts; bad elements and the alternating count of demand 3; per field its number and elements inside;
-- one line an element"
unfoldable pub table_of : List Field → ℕ → ℕ → ℕ → List Point → List Tet → Table
table_of fields collapsed moved reconnected points elements = record {
  vertices = length points;
  collapsed = collapsed;
  moved = moved;
  reconnected = reconnected;
  low = low_count points elements;
  euler = alternating (length points) (map vertices_of elements);
  inside = map (inside_count points elements) fields;
  elements = elements;
}

-- the text of a run's answer and of the mesh that it left: the table, or "`plot` prints only `refused N`"
abbrev pub printed : List Field → Ran → List Point → List Tet → List ℕ
printed fields (Finished collapsed moved reconnected sizes) points elements = table_text (table_of fields collapsed moved reconnected points elements)
printed fields (Stopped number sizes) points elements = refused_text number

-- the text of a run, its mesh in the buffers
abbrev pub run_text : Setting → Ran × State → List ℕ
run_text g x = printed (take g.count g.fields) x.0 (mesh_of x.1).points (mesh_of x.1).elements

-- ---- the whole

-- the box and fields of a plot, and `plot`'s work slices
abbrev pub setting_of : Plot → Setting
setting_of p = record { options = p.options; fields = p.fields; count = p.count; words = word_room; floats = float_room }

-- what is printed for a reading
abbrev pub text_of : Reading → List ℕ
text_of (refused number) = refused_text number
text_of (read p) = run_text (setting_of p) (run_passes (setting_of p) (placed p blank))

-- what is printed for the bytes of a file
unfoldable pub report : List ℕ → List ℕ
report s = text_of (reading s)

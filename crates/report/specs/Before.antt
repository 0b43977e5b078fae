-- The text with document 01's inside count beside today's, for the laws of Laws/Before.antt: "Only the `inside` lines change" (document 02,
-- request (ii)). No promise is written with it. Definitions only.
use Rattle.std.specs.Prelude.{ℕ, Bool, cond, List, [], ◌∷◌, map, length, take, ◌==◌}
use Rattle.std.specs.Float.Ieee.{le}
use Rattle.geometry.specs.declared.point.Point.{Point}
use Rattle.geometry.specs.declared.field.Field.{Field}
use Rattle.geometry.specs.Float.{zero64}
use Rattle.geometry.specs.Field.{value}
use Rattle.mesh.specs.declared.element.Tet.{Tet}
use Rattle.mesh.specs.Words.{point_at}
use Rattle.mesh.specs.Complex.{keep}
use Rattle.repair.specs.Step.{State, mesh_of}
use Rattle.report.specs.Run.{Ran}
use Rattle.report.specs.Run.{Finished, Stopped}
use Rattle.report.specs.Block.{Reading, refused, read, reading}
use Rattle.report.specs.Run.{Setting, run_passes}
use Rattle.report.specs.Table.{Table, refused_text, table_text, inside_line, inside_count}
use Rattle.report.specs.Report.{blank, placed, table_of, setting_of}

-- ---- lines

-- a byte in front of the first line
unfoldable pub in_front : ℕ → List (List ℕ) → List (List ℕ)
in_front b [] = (b ∷ []) ∷ []
in_front b (l ∷ ls) = (b ∷ l) ∷ ls

-- a text cut after every byte 10
unfoldable pub lines_of : List ℕ → List (List ℕ)
lines_of [] = []
lines_of (b ∷ s) = cond (b == 10) ((b ∷ []) ∷ lines_of s) (in_front b (lines_of s))

-- Two texts line by line: the same line, or two `inside` lines of one field, whatever they count.
pub data Alike : List (List ℕ) → List (List ℕ) → Type 0 where
  no_lines : Alike [] []
  same_line : (l : List ℕ) {ls ms : List (List ℕ)} → Alike ls ms → Alike (l ∷ ls) (l ∷ ms)
  inside-line : (field m n : ℕ) {ls ms : List (List ℕ)} → Alike ls ms → Alike (inside_line field m ∷ ls) (inside_line field n ∷ ms)

-- ---- other counts

-- a table with other counts of elements inside
unfoldable pub with_inside : List ℕ → Table → Table
with_inside counts t = record {
  vertices = t.vertices;
  collapsed = t.collapsed;
  moved = t.moved;
  reconnected = t.reconnected;
  low = t.low;
  euler = t.euler;
  inside = counts;
  elements = t.elements;
}

-- how many elements are inside, by some rule: a number for each field
abbrev pub Counting : Type 0
Counting = List Point → List Tet → List Field → List ℕ

-- `printed`, with these counts in its table
abbrev pub printed_by : Counting → List Field → Ran → List Point → List Tet → List ℕ
printed_by counting fields (Finished collapsed moved reconnected sizes) points elements =
    table_text (with_inside (counting points elements fields) (table_of fields collapsed moved reconnected points elements))
printed_by counting fields (Stopped number sizes) points elements = refused_text number

-- `run_text`, so counted
abbrev pub run_text_by : Counting → Setting → Ran × State → List ℕ
run_text_by counting g x = printed_by counting (take g.count g.fields) x.0 (mesh_of x.1).points (mesh_of x.1).elements

-- `text_of`, so counted
abbrev pub text_by : Counting → Reading → List ℕ
text_by counting (refused number) = refused_text number
text_by counting (read p) = run_text_by counting (setting_of p) (run_passes (setting_of p) (placed p blank))

-- `report`, so counted
unfoldable pub report_by : Counting → List ℕ → List ℕ
report_by counting s = text_by counting (reading s)

-- Two texts of one file: the same refusal, or one table, with these counts in its `inside` lines and with today's.
pub data OneTable (counting : Counting) : List ℕ → List ℕ → Type 0 where
  both-refused : (number : ℕ) → OneTable counting (refused_text number) (refused_text number)
  both-printed : (fields : List Field) (collapsed moved reconnected : ℕ) (points : List Point) (elements : List Tet)
      → OneTable counting (table_text (with_inside (counting points elements fields) (table_of fields collapsed moved reconnected points elements)))
      (table_text (table_of fields collapsed moved reconnected points elements))

-- ---- the two counts

-- document 01: "An element is inside a field where the field's value at the element's first vertex is at most 0"
abbrev pub first_inside : List Point → Field → Tet → Bool
first_inside points f t = le (value f (point_at points t.a)) zero64

-- document 01's counts, a number for each field
unfoldable pub first_counts : Counting
first_counts points elements fields = map (λ f. length (keep (first_inside points f) elements)) fields

-- today's counts, a number for each field
unfoldable pub mean_counts : Counting
mean_counts points elements fields = map (inside_count points elements) fields

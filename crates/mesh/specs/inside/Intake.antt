-- Intake by parts, as src/intake.rt tests them: elements in their slice, the rows of vertices, the numbers of the table in two steps.
-- For contracts of private functions and for proofs; definitions only.
use Rattle.std.specs.Prelude.{ℕ, ◌+◌, ◌*◌, Bool, cond, not, ◌&&◌, ◌||◌, List, nat_le}
use Rattle.std.specs.Float.Ieee.{lt}
use Rattle.geometry.specs.declared.point.Point.{Point}
use Rattle.geometry.specs.declared.bounds.Bounds.{Bounds}
use Rattle.geometry.specs.declared.bounds.Options.{Options}
use Rattle.geometry.specs.declared.field.Field.{Field}
use Rattle.mesh.specs.declared.element.Tet.{Tet}
use Rattle.mesh.specs.declared.intake.Sizes.{Sizes}
use Rattle.mesh.specs.declared.intake.Lengths.{Lengths}
use Rattle.mesh.specs.Sort.{sort}
use Rattle.mesh.specs.inside.Rows.{eq_row}
use Rattle.mesh.specs.Tests.{every}
use Rattle.mesh.specs.Words.{word_at}
use Rattle.mesh.specs.Element.{tet, vertices_of}
use Rattle.mesh.specs.inside.Sort.{ordered}
use Rattle.mesh.specs.Intake.{Given, all_different, fields_in, in_box, options_in, sized_point, too_many, too_short, upright, well_numbered}

-- ---- elements in their slice

-- the element e of a list of words, four words each; a word past the end counts as 0
unfoldable pub tet_at : List ℕ → ℕ → Tet
tet_at s e = tet (word_at s (4 * e)) (word_at s (4 * e + 1)) (word_at s (4 * e + 2)) (word_at s (4 * e + 3))

-- ---- 11

-- p below q in each direction
abbrev pub point_below : Point → Point → Bool
point_below p q = lt p.x q.x && (lt p.y q.y && lt p.z q.z)

-- ---- 13, 14, 15

-- the vertices of an element in rising order
unfoldable pub vertex_row : Tet → List ℕ
vertex_row t = sort nat_le (vertices_of t)

-- no row equals the next: what 14 comes to for the sorted rows of well numbered elements
unfoldable pub none_twice : List (List ℕ) → Bool
none_twice rs = ordered (λ r q. not (eq_row r q)) rs

-- ---- by parts

-- the table's rows 10 to 15, and 0 where none applies
unfoldable pub intake_numbers : Given → ℕ
intake_numbers g =
    cond (too_many g.sizes || too_short g.sizes g.lengths) 10
    (cond (not (options_in g.options && fields_in g.count g.fields)) 11
    (cond (not (every sized_point g.points && every (in_box g.options.bounds) g.parameters)) 12
    (cond (not (every (well_numbered g.sizes.vertices) g.elements)) 13
    (cond (not (all_different g.elements)) 14
    (cond (not (every (upright g.points) g.elements)) 15 0)))))

-- 10 and 11, by numbers alone
unfoldable pub settings_number : Sizes → Lengths → Options → ℕ → List Field → ℕ
settings_number s l o count fields = cond (too_many s || too_short s l) 10 (cond (not (options_in o && fields_in count fields)) 11 0)

-- 12 to 15, by n vertices and the elements
unfoldable pub mesh_number : ℕ → Bounds → List Point → List Point → List Tet → ℕ
mesh_number n b parameters points elements =
    cond (not (every sized_point points && every (in_box b) parameters)) 12
    (cond (not (every (well_numbered n) elements)) 13
    (cond (not (all_different elements)) 14 (cond (not (every (upright points) elements)) 15 0)))

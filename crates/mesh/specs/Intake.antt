-- Intake (document 01, "Where each number is given"): the table's conditions in its order, "the first failing gives the number".
-- Each number has a test of its own, in the words of its row. Definitions only.
use Rattle.std.specs.Prelude.{ℕ, ◌+◌, ◌*◌, Bool, true, false, cond, not, ◌&&◌, ◌||◌, List, [], ◌∷◌, length, take, pos, nat_le, nat_lt, Float}
use Rattle.std.specs.Float.{fin}
use Rattle.std.specs.Float.Ieee.{lt, le}
use Rattle.geometry.specs.declared.point.Point.{Point}
use Rattle.geometry.specs.declared.bounds.Bounds.{Bounds}
use Rattle.geometry.specs.declared.bounds.Options.{Options}
use Rattle.geometry.specs.declared.field.Field.{Field}
use Rattle.geometry.specs.declared.field.Field.TheVariants.{Level, Plane, Ball}
use Rattle.mesh.specs.declared.element.Tet.{Tet}
use Rattle.mesh.specs.declared.intake.Sizes.{Sizes}
use Rattle.mesh.specs.declared.intake.Settings.{Settings}
use Rattle.mesh.specs.declared.intake.Lengths.{Lengths}
use Rattle.mesh.specs.Complex.{sub}
use Rattle.mesh.specs.Measure.{measure}
use Rattle.mesh.specs.Tests.{every, nodup, under}
use Rattle.mesh.specs.Words.{points_of}
use Rattle.mesh.specs.Element.{tets, vertices_of}
use Rattle.mesh.specs.Boundary.{boundary_number}
use Rattle.mesh.specs.Surface.{Outcome, Surface, Refused}

-- ---- 10

-- "over 4,096 vertices, 16,384 elements .. or 4 surface triples an element"
abbrev pub too_many : Sizes → Bool
too_many s = nat_lt 4096 s.vertices || (nat_lt 16384 s.elements || nat_lt (4 * s.elements) s.triples)

-- "a slice shorter than its count; a surface buffer under 4 triples an element; an element buffer under twice its elements; work under
-- 256 32-bit words an element + 32 a vertex + 1,024, or under 16 f64 a vertex"
abbrev pub too_short : Sizes → Lengths → Bool
too_short s l =
    nat_lt l.parameters (3 * s.vertices)
    || (nat_lt l.points (3 * s.vertices)
    || (nat_lt l.masks s.vertices
    || (nat_lt l.surface (3 * (4 * s.elements))
    || (nat_lt l.elements (4 * (2 * s.elements))
    || (nat_lt l.words (256 * s.elements + 32 * s.vertices + 1024) || nat_lt l.floats (16 * s.vertices))))))

-- ---- 11

-- 2^20
abbrev pub million : Float
million = fin false 1 (pos 20)

-- finite and not "over 2^20 in size"
abbrev pub sized : Float → Bool
sized x = le (fin true 1 (pos 20)) x && le x million

abbrev pub sized_point : Point → Bool
sized_point p = sized p.x && (sized p.y && sized p.z)

-- the numbers of a field
abbrev pub sized_field : Field → Bool
sized_field (Level c) = sized c
sized_field (Plane n d) = sized_point n && sized d
sized_field (Ball c r) = sized_point c && sized r

-- "cells outside 1 to 4,096" fail
abbrev pub cells_in : ℕ → Bool
cells_in n = nat_le 1 n && nat_le n 4096

-- every bound "finite", not "over 2^20 in size", and lo below hi
abbrev pub bounds_in : Bounds → Bool
bounds_in b =
    sized_point b.lo && (sized_point b.hi && (lt b.lo.x b.hi.x && (lt b.lo.y b.hi.y && lt b.lo.z b.hi.z)))

-- "passes over 16", "an unknown .. periodic bit" fail
abbrev pub options_in : Options → Bool
options_in o =
    bounds_in o.bounds
    && (cells_in o.cells.x && (cells_in o.cells.y && (cells_in o.cells.z && (nat_le o.passes 16 && nat_le o.periodic 7))))

-- "over 8 fields", and the numbers of those that count
abbrev pub fields_in : ℕ → List Field → Bool
fields_in n fields = nat_le n 8 && every sized_field (take n fields)

-- ---- 12

-- lo to hi per direction
abbrev pub in_box : Bounds → Point → Bool
in_box b p =
    le b.lo.x p.x && (le p.x b.hi.x
    && (le b.lo.y p.y && (le p.y b.hi.y && (le b.lo.z p.z && le p.z b.hi.z))))

-- ---- 13, 14, 15

-- no "vertex number out of range or twice in an element"
abbrev pub well_numbered : ℕ → Tet → Bool
well_numbered n t = under n (vertices_of t) && nodup (vertices_of t)

-- the same four vertices, order aside
abbrev pub same_vertices : Tet → Tet → Bool
same_vertices t u = sub (vertices_of t) (vertices_of u) && sub (vertices_of u) (vertices_of t)

-- no "two elements with the same four vertices"
unfoldable pub all_different : List Tet → Bool
all_different [] = true
all_different (t ∷ ts) = every (λ u. not (same_vertices t u)) ts && all_different ts

-- determinant above 0
abbrev pub upright : List Point → Tet → Bool
upright ps t = (measure ps).above t

-- ---- the table

-- what stands in the lent slices, and how long they are
pub record Given : Type 0 where
  pub sizes : Sizes
  pub lengths : Lengths
  pub options : Options
  pub count : ℕ
  pub fields : List Field
  pub parameters : List Point
  pub points : List Point
  pub elements : List Tet

unfoldable pub intake : Given → ℕ
intake g =
    cond (too_many g.sizes || too_short g.sizes g.lengths) 10
    (cond (not (options_in g.options && fields_in g.count g.fields)) 11
    (cond (not (every sized_point g.points && every (in_box g.options.bounds) g.parameters)) 12
    (cond (not (every (well_numbered g.sizes.vertices) g.elements)) 13
    (cond (not (all_different g.elements)) 14
    (cond (not (every (upright g.points) g.elements)) 15
    (boundary_number g.elements))))))

-- ---- answers, and what lent slices give

-- the number of a refusal, and 0 for a surface
abbrev pub refusal_of : Outcome → ℕ
refusal_of (Surface c) = 0
refusal_of (Refused k) = k

-- what lent slices give, with what stands beside them; of the masks and of the surface only the lengths
unfoldable pub given_of : Settings → List Field → List Float → List Float → ℕ → List ℕ → ℕ → List ℕ → List Float → Given
given_of s fields parameters points masks elements surface work floats = record {
  sizes = s.sizes;
  lengths = record {
    parameters = length parameters;
    points = length points;
    masks = masks;
    elements = length elements;
    surface = surface;
    words = length work;
    floats = length floats;
  };
  options = s.options;
  count = s.count;
  fields = fields;
  parameters = points_of s.sizes.vertices parameters;
  points = points_of s.sizes.vertices points;
  elements = tets s.sizes.elements elements;
}

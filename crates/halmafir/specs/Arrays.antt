-- How arrays of numbers are read as a point, a box, fields, options, sizes, and what stands beside a mesh. Definitions only.
use Rattle.std.specs.Prelude.{ℕ, zero, suc, ◌+◌, ◌*◌, List, [], ◌∷◌, Float, get_or}
use Rattle.std.specs.Float.{nan}
use Rattle.geometry.specs.declared.point.Point.{Point}
use Rattle.geometry.specs.declared.bounds.Bounds.{Bounds}
use Rattle.geometry.specs.declared.bounds.Options.{Options}
use Rattle.geometry.specs.declared.field.Field.{Field}
use Rattle.geometry.specs.declared.field.Field.TheVariants.{Level, Plane, Ball}
use Rattle.mesh.specs.declared.intake.Sizes.{Sizes}
use Rattle.mesh.specs.declared.intake.Settings.{Settings}

-- the three numbers from place i on
abbrev pub point_of : List Float → ℕ → Point
point_of l i = record { x = get_or l i nan; y = get_or l (i + 1) nan; z = get_or l (i + 2) nan }

-- lo and hi per direction: x, y, z
abbrev pub bounds_of : List Float → Bounds
bounds_of l = record {
  lo = record { x = get_or l 0 nan; y = get_or l 2 nan; z = get_or l 4 nan };
  hi = record { x = get_or l 1 nan; y = get_or l 3 nan; z = get_or l 5 nan };
}

-- a kind and four numbers: 0 is a level, 1 a plane, 2 a ball. An unknown kind is read as a level at NaN: intake refuses "a field number not
-- finite" with the number of "an unknown kind", in the same place of its order.
abbrev pub field_of : ℕ → List Float → Field
field_of zero l = Level (get_or l 0 nan)
field_of (suc zero) l = Plane (point_of l 0) (get_or l 3 nan)
field_of (suc (suc zero)) l = Ball (point_of l 0) (get_or l 3 nan)
field_of (suc (suc (suc k))) l = Level nan

-- of the settings: three cells, periodic bits, passes, how many fields there are, and the kinds of eight; of the numbers: a box, and four for
-- each of eight fields. The field j of eight
unfoldable pub field_at : List ℕ → List Float → ℕ → Field
field_at settings numbers j =
    field_of (get_or settings (6 + j) 0)
    (get_or numbers (6 + 4 * j) nan ∷ get_or numbers (7 + 4 * j) nan ∷ get_or numbers (8 + 4 * j) nan ∷ get_or numbers (9 + 4 * j) nan ∷ [])

-- all eight
abbrev pub fields_of : List ℕ → List Float → List Field
fields_of s l =
    field_at s l 0 ∷ field_at s l 1 ∷ field_at s l 2 ∷ field_at s l 3 ∷ field_at s l 4 ∷ field_at s l 5 ∷ field_at s l 6 ∷ field_at s l 7 ∷ []

-- how many of them count
abbrev pub count_of : List ℕ → ℕ
count_of s = get_or s 5 0

-- the box, cells, periodic bits and passes
abbrev pub options_of : List ℕ → List Float → Options
options_of s l = record {
  bounds = bounds_of l;
  cells = record { x = get_or s 0 0; y = get_or s 1 0; z = get_or s 2 0 };
  periodic = get_or s 3 0;
  passes = get_or s 4 0;
}

-- vertices, elements, triples
abbrev pub sizes_of : List ℕ → Sizes
sizes_of l = record { vertices = get_or l 0 0; elements = get_or l 1 0; triples = get_or l 2 0 }

-- what stands beside the mesh in a call: its sizes, the options, and how many of the fields count
abbrev pub settings_of : List ℕ → List ℕ → List Float → Settings
settings_of n s l = record { sizes = sizes_of n; options = options_of s l; count = count_of s }

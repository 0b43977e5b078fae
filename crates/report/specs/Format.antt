-- The numbers of block files, once each, with the words of document 01 ("Block") that give them, and `plot`'s limits. src/format.rt has the
-- same names for the code, but that the kinds are values of its `BlockKind` and of geometry's `Kind`. A size is a number of words, a place the
-- number of a word in its block. Definitions only.
use Rattle.std.specs.Prelude.{ℕ, cond, ◌==◌}
use Rattle.report.specs.declared.format.BlockKind.{BlockKind}
use Rattle.report.specs.declared.format.BlockKind.TheVariants.{Header, Vertices, Elements}

-- ---- a block

-- "512 bytes are 128 little-endian 32-bit words"
abbrev pub words_a_block : ℕ
words_a_block = 128

-- four bytes a word
abbrev pub bytes_a_block : ℕ
bytes_a_block = 512

-- "word 0 kind (1 header, .."
abbrev pub header_kind : ℕ
header_kind = 1

-- ".. 2 vertices, .."
abbrev pub vertex_kind : ℕ
vertex_kind = 2

-- ".. 3 elements)"
abbrev pub element_kind : ℕ
element_kind = 3

-- the same, of a kind by itself
abbrev pub block_kind_number : BlockKind → ℕ
block_kind_number Header = header_kind
block_kind_number Vertices = vertex_kind
block_kind_number Elements = element_kind

-- "words 3 to 126 records"
abbrev pub first_record : ℕ
first_record = 3

-- how many words these are
abbrev pub record_room : ℕ
record_room = 124

-- ---- vertex and element records

-- "3 parameters, 3 point coordinates, mask", and "An f64 is two words"
abbrev pub vertex_size : ℕ
vertex_size = 13

-- "Vertex record, 9 a block"
abbrev pub vertices_a_block : ℕ
vertices_a_block = 9

-- "Element record: 4 words, .."
abbrev pub element_size : ℕ
element_size = 4

-- ".. 31 a block"
abbrev pub elements_a_block : ℕ
elements_a_block = 31

-- ---- the header's record

-- "Header record: vertices, .."
abbrev pub vertices_place : ℕ
vertices_place = 3

-- ".. elements, .."
abbrev pub elements_place : ℕ
elements_place = 4

-- ".. lo and hi (6 f64: x lo, x hi, y, z), .."
abbrev pub bounds_place : ℕ
bounds_place = 5

-- ".. cells (3), .."
abbrev pub cells_place : ℕ
cells_place = 17

-- ".. periodic bits .., .."
abbrev pub periodic_place : ℕ
periodic_place = 20

-- ".. passes, .."
abbrev pub passes_place : ℕ
passes_place = 21

-- ".. number of fields, .."
abbrev pub count_place : ℕ
count_place = 22

-- ".. then 8 places of kind and 4 f64": the first of them
abbrev pub first_field : ℕ
first_field = 23

-- "8 places"
abbrev pub field_places : ℕ
field_places = 8

-- "kind and 4 f64"
abbrev pub field_size : ℕ
field_size = 9

-- the whole record
abbrev pub header_size : ℕ
header_size = 92

-- how many words a record of a block of this kind takes
abbrev pub record_size : ℕ → ℕ
record_size kind = cond (kind == header_kind) header_size (cond (kind == vertex_kind) vertex_size element_size)

-- ---- the kinds of fields

-- "(level: c; .."
abbrev pub level_kind : ℕ
level_kind = 0

-- a level's kind and c
abbrev pub level_size : ℕ
level_size = 3

-- ".. plane: n, d; .."
abbrev pub plane_kind : ℕ
plane_kind = 1

-- ".. ball: c, r)": the last, and "an unknown kind" is above it
abbrev pub ball_kind : ℕ
ball_kind = 2

-- ---- the limits of `plot`

-- "`plot` takes at most 24 vertices .."
abbrev pub most_vertices : ℕ
most_vertices = 24

-- ".. and 24 elements"
abbrev pub most_elements : ℕ
most_elements = 24

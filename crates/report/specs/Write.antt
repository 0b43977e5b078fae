-- Block files as written (document 01, "Block"): `file_of` is the file of a plot, reading it gives the plot back, and a file that is read is
-- the file of its plot (proofs/Laws/Write).
-- The file is a list of words, block after block, and each word is four bytes. Spare words are 0 (document 02, request (i)). A float has
-- the words of its pattern; a NaN's is 0x7FF8000000000000, so that it is read as a NaN.
-- Definitions only.
use Rattle.std.specs.Prelude.{◌≡◌, ℕ, ◌+◌, ◌-◌, ◌*◌, ◌/◌, ◌%◌, ◌^◌, ◌<◌, ◌≤◌, min, Bool, false, cond, ◌&&◌, T, List, [], ◌∷◌, ◌++◌, length, take, drop, ◌==◌, is_nan, nat_le, nat_lt, slice_index_or, Float}
use Rattle.std.specs.Float.{binary64}
use Rattle.std.specs.Float.Ieee.{fits}
use Rattle.geometry.specs.declared.bounds.Bounds.{Bounds}
use Rattle.geometry.specs.declared.bounds.Options.{Options}
use Rattle.geometry.specs.declared.field.Field.{Field}
use Rattle.geometry.specs.declared.field.Field.TheVariants.{Level, Plane, Ball}
use Rattle.geometry.specs.declared.point.Point.{Point}
use Rattle.geometry.specs.Float.{zero64}
use Rattle.geometry.specs.Word.{low_word, high_word}
use Rattle.mesh.specs.Words.{word_at, float_at, point_in, zero_words}
use Rattle.report.specs.Format.{bytes_a_block, header_kind, vertex_kind, element_kind, record_room, vertices_a_block, elements_a_block, field_places, field_size, level_kind, plane_kind, ball_kind, most_vertices, most_elements}
use Rattle.report.specs.Bytes.{listed}
use Rattle.report.specs.declared.plot.Plot as source
use Rattle.report.specs.Block.{Plot, vertex_blocks, element_blocks}

-- ---- words

-- "little-endian 32-bit words": the four bytes of a word, the lowest first
abbrev pub word_bytes : ℕ → List ℕ
word_bytes w = w % 256 ∷ w / 256 % 256 ∷ w / 65536 % 256 ∷ w / 16777216 % 256 ∷ []

-- the bytes of words
unfoldable pub bytes_of : List ℕ → List ℕ
bytes_of [] = []
bytes_of (w ∷ ws) = word_bytes w ++ bytes_of ws

-- the sum of words
unfoldable pub total_of : List ℕ → ℕ
total_of [] = 0
total_of (w ∷ ws) = w + total_of ws

-- "An f64 is two words, low first"
abbrev pub float_words : Float → List ℕ
float_words x = low_word x ∷ high_word x ∷ []

-- three f64
abbrev pub point_words : Point → List ℕ
point_words p = float_words p.x ++ (float_words p.y ++ float_words p.z)

-- ---- a block

-- words 0 to 126: kind, block number, records used, the records, and 0 in the spare words
unfoldable pub block_front : ℕ → ℕ → ℕ → List ℕ → List ℕ
block_front kind number count records = kind ∷ number ∷ count ∷ (records ++ zero_words (record_room - length records))

-- what makes a sum 0 modulo 2^32
abbrev pub check_of : ℕ → ℕ
check_of sum = (2 ^ 32 - sum % 2 ^ 32) % 2 ^ 32

-- "word 127 such that all 128 words add to 0 modulo 2^32"
unfoldable pub closed : List ℕ → List ℕ
closed front = front ++ (check_of (total_of front) ∷ [])

-- ---- the header

-- "lo and hi (6 f64: x lo, x hi, y, z)"
unfoldable pub bounds_words : Bounds → List ℕ
bounds_words b =
    float_words b.lo.x ++ (float_words b.hi.x
    ++ (float_words b.lo.y ++ (float_words b.hi.y ++ (float_words b.lo.z ++ float_words b.hi.z))))

-- "lo and hi .., cells (3), periodic bits .., passes"
unfoldable pub options_words : Options → List ℕ
options_words o = bounds_words o.bounds ++ (o.cells.x ∷ o.cells.y ∷ o.cells.z ∷ o.periodic ∷ o.passes ∷ [])

-- "kind and 4 f64 (level: c; plane: n, d; ball: c, r)"
unfoldable pub field_words : Field → List ℕ
field_words (Level c) = (level_kind ∷ []) ++ (float_words c ++ zero_words 6)
field_words (Plane n d) = (plane_kind ∷ []) ++ (point_words n ++ float_words d)
field_words (Ball c r) = (ball_kind ∷ []) ++ (point_words c ++ float_words r)

-- the place j of a field: unused from the number of fields on
unfoldable pub place_words : ℕ → List Field → ℕ → List ℕ
place_words count fields j = cond (nat_lt j count) (field_words (slice_index_or fields j (Level zero64))) (zero_words field_size)

-- "Header record: vertices, elements, lo and hi .., passes, number of fields, then 8 places"
unfoldable pub header_record : Options → ℕ → List Field → ℕ → ℕ → List ℕ
header_record o count fields vertices elements =
    (vertices ∷ elements ∷ []) ++ (options_words o ++ ((count ∷ []) ++ listed (place_words count fields) field_places))

-- "1 header": the block 0, with one record
unfoldable pub header_front : Options → ℕ → List Field → ℕ → ℕ → List ℕ
header_front o count fields vertices elements = block_front header_kind 0 1 (header_record o count fields vertices elements)

-- ---- vertex and element records

-- "Vertex record ..: 3 parameters, 3 point coordinates, mask"
unfoldable pub vertex_record : List Float → List Float → List ℕ → ℕ → List ℕ
vertex_record parameters points masks v =
    point_words (point_in parameters v) ++ (point_words (point_in points v) ++ (word_at masks v ∷ []))

-- "Element record: 4 words"
unfoldable pub element_record : List ℕ → ℕ → List ℕ
element_record corners e = word_at corners (4 * e) ∷ word_at corners (4 * e + 1) ∷ word_at corners (4 * e + 2) ∷ word_at corners (4 * e + 3) ∷ []

-- the n records from the record `first` on
abbrev pub records_from : (ℕ → List ℕ) → ℕ → ℕ → List ℕ
records_from row first n = listed (λ (r : ℕ). row (first + r)) n

-- "Every block but the last of its kind is full": the block k of the file, with vertices
unfoldable pub vertex_front : List Float → List Float → List ℕ → ℕ → ℕ → List ℕ
vertex_front parameters points masks vertices k =
    let first = vertices_a_block * (k - 1) in
    let n = min vertices_a_block (vertices - first) in
    block_front vertex_kind k n (records_from (vertex_record parameters points masks) first n)

-- the block k of the file, with elements, behind this many blocks of vertices
unfoldable pub element_front : List ℕ → ℕ → ℕ → ℕ → List ℕ
element_front corners elements before k =
    let first = elements_a_block * (k - 1 - before) in
    let n = min elements_a_block (elements - first) in
    block_front element_kind k n (records_from (element_record corners) first n)

-- ---- the file

-- the block k without its word 127
unfoldable pub file_front : Plot → ℕ → List ℕ
file_front p k =
    cond (k == 0) (header_front p.options p.count p.fields p.vertices p.elements)
    (cond (nat_le k (vertex_blocks p.vertices)) (vertex_front p.parameters p.points p.masks p.vertices k)
    (element_front p.corners p.elements (vertex_blocks p.vertices) k))

-- the block k
abbrev pub file_block : Plot → ℕ → List ℕ
file_block p k = closed (file_front p k)

-- how many blocks the file has
abbrev pub blocks_of : ℕ → ℕ → ℕ
blocks_of vertices elements = 1 + vertex_blocks vertices + element_blocks elements

-- the file's bytes
unfoldable pub file_of : Plot → List ℕ
file_of p = bytes_of (listed (file_block p) (blocks_of p.vertices p.elements))

-- ---- writing into a slice

-- the plot that src/plot.rt holds in slices
abbrev pub plot_of : source.Plot → Plot
plot_of p = record {
  options = p.options;
  count = p.count;
  fields = p.fields;
  vertices = p.vertices;
  elements = p.elements;
  parameters = p.parameters.now;
  points = p.points.now;
  masks = p.masks.now;
  corners = p.corners.now;
}

-- how long the lists of a plot and the slice are
pub record Rooms : Type 0 where
  pub parameters : ℕ
  pub points : ℕ
  pub masks : ℕ
  pub corners : ℕ
  pub out : ℕ

-- what is written: vertices, elements and fields within their limits, where the lists hold as many and the slice has room for the file
unfoldable pub room_for : ℕ → ℕ → ℕ → Rooms → Bool
room_for count vertices elements l =
    nat_le vertices most_vertices && (nat_le elements most_elements && (nat_le count field_places && (nat_le (3 * vertices) l.parameters && (nat_le (3 * vertices) l.points
    && (nat_le vertices l.masks && (nat_le (4 * elements) l.corners && nat_le (bytes_a_block * blocks_of vertices elements) l.out))))))

-- whether the file is written into a slice of this length
abbrev pub has_room : Plot → ℕ → Bool
has_room p room =
    room_for p.count p.vertices p.elements
    (record { parameters = length p.parameters; points = length p.points; masks = length p.masks; corners = length p.corners; out = room })

-- the slice behind the writing: the file at its front, and as it was where nothing is written
unfoldable pub file_into : Plot → List ℕ → List ℕ
file_into p out = cond (has_room p (length out)) (file_of p ++ drop (bytes_a_block * blocks_of p.vertices p.elements) out) out

-- how many bytes are written, 0 where none
unfoldable pub file_size : Plot → ℕ → ℕ
file_size p room = cond (has_room p room) (bytes_a_block * blocks_of p.vertices p.elements) 0

-- ---- what is read back

-- the field j where its place is used, and else the level 0 that an unused place is read as
unfoldable pub kept_field : ℕ → List Field → ℕ → Field
kept_field count fields j = cond (nat_lt j count) (slice_index_or fields j (Level zero64)) (Level zero64)

-- the plot without what the file does not hold: fields in unused places, and what the lists have past the counts
unfoldable pub kept : Plot → Plot
kept p = record {
  options = p.options;
  count = p.count;
  fields =
      kept_field p.count p.fields 0 ∷ kept_field p.count p.fields 1 ∷ kept_field p.count p.fields 2 ∷ kept_field p.count p.fields 3
      ∷ kept_field p.count p.fields 4 ∷ kept_field p.count p.fields 5 ∷ kept_field p.count p.fields 6 ∷ kept_field p.count p.fields 7 ∷ [];
  vertices = p.vertices;
  elements = p.elements;
  parameters = take (3 * p.vertices) p.parameters;
  points = take (3 * p.vertices) p.points;
  masks = take p.vertices p.masks;
  corners = take (4 * p.elements) p.corners;
}

-- coordinates that are f64
pub record PointFits (q : Point) : Type 0 where
  pub x_fits : T (fits binary64 q.x)
  pub y-fits : T (fits binary64 q.y)
  pub z-fits : T (fits binary64 q.z)

-- a field's numbers are f64
abbrev pub FieldFits : Field → Type 0
FieldFits (Level c) = T (fits binary64 c)
FieldFits (Plane n d) = PointFits n × T (fits binary64 d)
FieldFits (Ball c r) = PointFits c × T (fits binary64 r)

-- a plot of f64 and 32-bit words, within the limits, whose lists hold what the counts say
pub record Sound (p : Plot) : Type 0 where
  pub vertices-few : p.vertices ≤ most_vertices
  pub elements-few : p.elements ≤ most_elements
  pub count-few : p.count ≤ field_places
  pub parameters-in : 3 * p.vertices ≤ length p.parameters
  pub points-in : 3 * p.vertices ≤ length p.points
  pub masks-in : p.vertices ≤ length p.masks
  pub corners-in : 4 * p.elements ≤ length p.corners
  pub lo-fits : PointFits p.options.bounds.lo
  pub hi-fits : PointFits p.options.bounds.hi
  pub cells-small : (p.options.cells.x < 2 ^ 32) × (p.options.cells.y < 2 ^ 32) × (p.options.cells.z < 2 ^ 32)
  pub periodic-small : p.options.periodic < 2 ^ 32
  pub passes-small : p.options.passes < 2 ^ 32
  pub fields_fit : (j : ℕ) → j < p.count → FieldFits (slice_index_or p.fields j (Level zero64))
  pub parameters-fit : (i : ℕ) → T (fits binary64 (float_at p.parameters i))
  pub points-fit : (i : ℕ) → T (fits binary64 (float_at p.points i))
  pub masks-small : (i : ℕ) → word_at p.masks i < 2 ^ 32
  pub corners-small : (i : ℕ) → word_at p.corners i < 2 ^ 32

-- a plot with nothing that the file does not hold: lists of just their lengths, and a level 0 in each unused place
pub record Exact (p : Plot) : Type 0 where
  pub parameters-all : length p.parameters ≡ 3 * p.vertices
  pub points-all : length p.points ≡ 3 * p.vertices
  pub masks-all : length p.masks ≡ p.vertices
  pub corners-all : length p.corners ≡ 4 * p.elements
  pub fields-all : length p.fields ≡ field_places
  pub unused : (j : ℕ) → p.count ≤ j → j < field_places → slice_index_or p.fields j (Level zero64) ≡ Level zero64

-- ---- one plot, one file (document 02, request (i): "Two files of one plot then had different bytes")

-- coordinates that are no NaN
pub record PointIsNumber (q : Point) : Type 0 where
  pub x-number : is_nan q.x ≡ false
  pub y-number : is_nan q.y ≡ false
  pub z-number : is_nan q.z ≡ false

-- no number of a field is a NaN
abbrev pub FieldIsNumber : Field → Type 0
FieldIsNumber (Level c) = is_nan c ≡ false
FieldIsNumber (Plane n d) = PointIsNumber n × (is_nan d ≡ false)
FieldIsNumber (Ball c r) = PointIsNumber c × (is_nan r ≡ false)

-- no float of a plot is a NaN, whose pattern the reading does not tell
pub record NoNan (p : Plot) : Type 0 where
  pub lo-number : PointIsNumber p.options.bounds.lo
  pub hi-number : PointIsNumber p.options.bounds.hi
  pub fields-number : (j : ℕ) → j < p.count → FieldIsNumber (slice_index_or p.fields j (Level zero64))
  pub parameters-number : (i : ℕ) → is_nan (float_at p.parameters i) ≡ false
  pub points-number : (i : ℕ) → is_nan (float_at p.points i) ≡ false

-- Block files (document 01, "Block", and the rows 1, 2, 3 and 10 of "Where each number is given"; document 02, request (i), for 30), as a
-- definition `reading` of all bytes: a number, or the plot. The file is one list of words, block after block. Definitions only.
use Rattle.std.specs.Prelude.{ℕ, zero, suc, ◌+◌, ◌-◌, ◌*◌, ◌/◌, ◌%◌, ◌^◌, min, Bool, cond, not, ◌&&◌, ◌||◌, leb, List, [], ◌∷◌, length, ◌==◌, nat_eq, nat_le, nat_lt, Float}
use Rattle.geometry.specs.declared.bounds.Options.{Options}
use Rattle.geometry.specs.declared.field.Field.{Field}
use Rattle.geometry.specs.declared.field.Field.TheVariants.{Level, Plane, Ball}
use Rattle.geometry.specs.Float.{zero64}
use Rattle.mesh.specs.Words.{numbers}
use Rattle.mesh.specs.Tests.{every}
use Rattle.report.specs.Format.{words_a_block, bytes_a_block, header_kind, vertex_kind, element_kind, first_record, record_room, record_size, vertex_size, vertices_a_block, element_size, elements_a_block, vertices_place, elements_place, bounds_place, cells_place, periodic_place, passes_place, count_place, first_field, field_places, field_size, level_size, level_kind, plane_kind, ball_kind, most_vertices, most_elements}
use Rattle.report.specs.Bytes.{word_in, float_in, point_from, sum_of, listed, first_of}

-- ---- spare words (document 02, request (i))

-- how many fields there are
abbrev pub fields_in : List ℕ → ℕ
fields_in s = word_in s count_place

-- the kind in the place j of a field
abbrev pub kind_at : List ℕ → ℕ → ℕ
kind_at s j = word_in s (first_field + field_size * j)

-- the n words from the word i on are zero
unfoldable pub zeros_from : List ℕ → ℕ → ℕ → Bool
zeros_from s i n = every (λ j. nat_eq (word_in s j) 0) (numbers i n)

-- "words 3 to 126 that no record uses" are zero: those of the block k behind so many records of this kind
unfoldable pub rest_zero : List ℕ → ℕ → ℕ → ℕ → Bool
rest_zero s k kind count =
    zeros_from s (words_a_block * k + first_record + record_size kind * count) (record_room - record_size kind * count)

-- "numbers that a field's kind doesn't use": a level uses its kind and c; "A place of unknown kind counts as using all its numbers"
abbrev pub words_used : ℕ → ℕ
words_used kind = cond (kind == level_kind) level_size field_size

-- "the header's unused field places" are those from the number of fields on, so "with more than 8 fields no place is unused"
unfoldable pub used_in : List ℕ → ℕ → ℕ
used_in s j = cond (nat_lt j (fields_in s)) (words_used (kind_at s j)) 0

-- "Spare words must be zero, also in the header's unused field places and in numbers that a field's kind doesn't use": in the place j
unfoldable pub place_zero : List ℕ → ℕ → Bool
place_zero s j = zeros_from s (first_field + field_size * j + used_in s j) (field_size - used_in s j)

-- "Spare words must be zero": all of the block k, where this kind and count are expected; the header is the block 0
unfoldable pub spare_zero : List ℕ → ℕ → ℕ → ℕ → Bool
spare_zero s k kind count =
    rest_zero s k kind count && (not (kind == header_kind) || every (place_zero s) (numbers 0 field_places))

-- ---- a block

-- "file ends before its last block is whole": the bytes of the block k are not all there
abbrev pub not_whole : List ℕ → ℕ → Bool
not_whole s k = nat_lt (length s) (bytes_a_block * (k + 1))

-- "all 128 words add to 0 modulo 2^32"
unfoldable pub adds_to_zero : List ℕ → ℕ → Bool
adds_to_zero s k = sum_of s (words_a_block * k) words_a_block % 2 ^ 32 == 0

-- "word 0 kind .., word 1 block number, counted from 0 through the whole file, word 2 records used"
abbrev pub is_expected : List ℕ → ℕ → ℕ → ℕ → Bool
is_expected s k kind count =
    (word_in s (words_a_block * k) == kind) && (word_in s (words_a_block * k + 1) == k && word_in s (words_a_block * k + 2) == count)

-- the rows 1, 2, 3 for the block k, where this kind and count are expected; then "30, in the block place, after 3 of the same block"
unfoldable pub block_number : List ℕ → ℕ → ℕ → ℕ → ℕ
block_number s k kind count =
    cond (not_whole s k) 1 (cond (not (adds_to_zero s k)) 2
    (cond (not (is_expected s k kind count)) 3 (cond (not (spare_zero s k kind count)) 30 0)))

-- ---- the blocks of a file

-- how many blocks n vertices take
abbrev pub vertex_blocks : ℕ → ℕ
vertex_blocks n = (n + (vertices_a_block - 1)) / vertices_a_block

-- how many blocks n elements take
abbrev pub element_blocks : ℕ → ℕ
element_blocks n = (n + (elements_a_block - 1)) / elements_a_block

-- the kind of the block k, from 1 on
abbrev pub kind_of : ℕ → ℕ → ℕ
kind_of vertices k = cond (nat_le k (vertex_blocks vertices)) vertex_kind element_kind

-- "Every block but the last of its kind is full": the count of the block k, from 1 on
abbrev pub count_of : ℕ → ℕ → ℕ → ℕ
count_of vertices elements k =
    cond (nat_le k (vertex_blocks vertices)) (min vertices_a_block (vertices - vertices_a_block * (k - 1)))
    (min elements_a_block (elements - elements_a_block * (k - 1 - vertex_blocks vertices)))

-- "bytes follow that block": 1 for bytes from the block k on
abbrev pub end_number : List ℕ → ℕ → ℕ
end_number s k = cond (nat_lt (bytes_a_block * k) (length s)) 1 0

-- "Blocks are checked one by one": n blocks from the block k on, and then the end
unfoldable pub blocks_from : List ℕ → ℕ → ℕ → ℕ → ℕ → ℕ
blocks_from s vertices elements zero k = end_number s k
blocks_from s vertices elements (suc n) k =
    first_of (block_number s k (kind_of vertices k) (count_of vertices elements k)) (blocks_from s vertices elements n (k + 1))

-- the header's first number: vertices
abbrev pub vertices_in : List ℕ → ℕ
vertices_in s = word_in s vertices_place

-- the header's second number: elements
abbrev pub elements_in : List ℕ → ℕ
elements_in s = word_in s elements_place

-- "`plot`'s own count limits (10) come right after the header block"
abbrev pub limit_number : ℕ → ℕ → ℕ
limit_number vertices elements = cond (nat_lt most_vertices vertices || nat_lt most_elements elements) 10 0

-- the blocks behind the header, by the header's counts
unfoldable pub body_number : List ℕ → ℕ → ℕ → ℕ
body_number s vertices elements =
    first_of (limit_number vertices elements) (blocks_from s vertices elements (vertex_blocks vertices + element_blocks elements) 1)

-- 1, 2, 3, 30 or 10 for the whole file, and 0 where none applies
unfoldable pub file_number : List ℕ → ℕ
file_number s = first_of (block_number s 0 header_kind 1) (body_number s (vertices_in s) (elements_in s))

-- ---- the header's record

-- "lo and hi (6 f64: x lo, x hi, y, z), cells (3), periodic bits .., passes"
unfoldable pub header_options : List ℕ → Options
header_options s = record {
  bounds = record {
    lo = record { x = float_in s bounds_place; y = float_in s (bounds_place + 4); z = float_in s (bounds_place + 8) };
    hi = record { x = float_in s (bounds_place + 2); y = float_in s (bounds_place + 6); z = float_in s (bounds_place + 10) };
  };
  cells = record { x = word_in s cells_place; y = word_in s (cells_place + 1); z = word_in s (cells_place + 2) };
  periodic = word_in s periodic_place;
  passes = word_in s passes_place;
}

-- "(level: c; plane: n, d; ball: c, r)": a field's numbers from the word i on; those that its kind doesn't use are no part of it
unfoldable pub field_from : List ℕ → ℕ → ℕ → Field
field_from s kind i =
    cond (kind == level_kind) (Level (float_in s i))
    (cond (kind == plane_kind) (Plane (point_from s i) (float_in s (i + 6))) (Ball (point_from s i) (float_in s (i + 6))))

-- the field j, and a level 0 for an unused place
unfoldable pub field_at : List ℕ → ℕ → Field
field_at s j = cond (nat_lt j (fields_in s)) (field_from s (kind_at s j) (first_field + 1 + field_size * j)) (Level zero64)

-- the fields in their 8 places
abbrev pub header_fields : List ℕ → List Field
header_fields s =
    field_at s 0 ∷ field_at s 1 ∷ field_at s 2 ∷ field_at s 3 ∷ field_at s 4 ∷ field_at s 5 ∷ field_at s 6 ∷ field_at s 7 ∷ []

-- "over 8 fields, an unknown kind": of the row 11 what an enum of three kinds and 8 places cannot hold
unfoldable pub kinds_number : List ℕ → ℕ
kinds_number s = cond (nat_le (fields_in s) field_places && every (λ j. leb (kind_at s j) ball_kind) (numbers 0 (fields_in s))) 0 11

-- ---- vertex and element records

-- where the record of the vertex v begins
unfoldable pub vertex_place : ℕ → ℕ
vertex_place v = words_a_block * (1 + v / vertices_a_block) + first_record + vertex_size * (v % vertices_a_block)

-- "3 parameters, 3 point coordinates, mask"
unfoldable pub parameter_row : List ℕ → ℕ → List Float
parameter_row s v = float_in s (vertex_place v) ∷ float_in s (vertex_place v + 2) ∷ float_in s (vertex_place v + 4) ∷ []

-- the point coordinates of the vertex v
unfoldable pub point_row : List ℕ → ℕ → List Float
point_row s v = float_in s (vertex_place v + 6) ∷ float_in s (vertex_place v + 8) ∷ float_in s (vertex_place v + 10) ∷ []

-- its mask
unfoldable pub mask_row : List ℕ → ℕ → List ℕ
mask_row s v = word_in s (vertex_place v + 12) ∷ []

-- where the record of the element e begins, behind this many blocks
unfoldable pub element_place : ℕ → ℕ → ℕ
element_place blocks e = words_a_block * (blocks + e / elements_a_block) + first_record + element_size * (e % elements_a_block)

-- the four vertices of the element e, behind this many blocks
unfoldable pub element_row : List ℕ → ℕ → ℕ → List ℕ
element_row s blocks e =
    word_in s (element_place blocks e) ∷ word_in s (element_place blocks e + 1)
    ∷ word_in s (element_place blocks e + 2) ∷ word_in s (element_place blocks e + 3) ∷ []

-- ---- the reading

-- what the file holds: vertices and elements as they stand in the passes' slices, 3 floats, 3 floats and a mask a vertex, 4 words an element
pub record Plot : Type 0 where
  pub options : Options
  pub count : ℕ
  pub fields : List Field
  pub vertices : ℕ
  pub elements : ℕ
  pub parameters : List Float
  pub points : List Float
  pub masks : List ℕ
  pub corners : List ℕ

-- a number of the table, or what the file holds
pub data Reading : Type 0 where
  refused : ℕ → Reading
  read : Plot → Reading

-- 1, 2, 3, 30 and 10 in their order, then 11 for the fields: what else the row 11 says is intake's
unfoldable pub reading_number : List ℕ → ℕ
reading_number s = first_of (file_number s) (kinds_number s)

-- what the file holds, by the header's counts
unfoldable pub plot_in : List ℕ → Plot
plot_in s = record {
  options = header_options s;
  count = fields_in s;
  fields = header_fields s;
  vertices = vertices_in s;
  elements = elements_in s;
  parameters = listed (parameter_row s) (vertices_in s);
  points = listed (point_row s) (vertices_in s);
  masks = listed (mask_row s) (vertices_in s);
  corners = listed (element_row s (1 + vertex_blocks (vertices_in s))) (elements_in s);
}

-- the plot where no number applies, and else the number
unfoldable pub reading : List ℕ → Reading
reading s = cond (reading_number s == 0) (read (plot_in s)) (refused (reading_number s))

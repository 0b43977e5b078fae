-- How wide the rows of records are. For the contracts of private functions.
use Rattle.std.specs.Prelude.{◌≡◌, ℕ, Bool, true, false, cond, List, length, slice_index_or, nat_lt, refl, Float}
use Rattle.geometry.specs.declared.field.Field.{Field}
use Rattle.geometry.specs.declared.field.Field.TheVariants.{Level, Plane, Ball}
use Rattle.geometry.specs.Float.{zero64}
use Rattle.mesh.specs.Words.{zero_words}
use Rattle.report.specs.Format.{field_size}
use Rattle.report.specs.Block.{parameter_row, point_row, mask_row, element_row}
use Rattle.report.specs.Write.{field_words, place_words, vertex_record, element_record}

pub parameter_row-wide : (s : List ℕ) (v : ℕ) → length (parameter_row s v) ≡ 3
unfolding parameter_row
parameter_row-wide s v = refl

pub point_row-wide : (s : List ℕ) (v : ℕ) → length (point_row s v) ≡ 3
unfolding point_row
point_row-wide s v = refl

pub mask_row-wide : (s : List ℕ) (v : ℕ) → length (mask_row s v) ≡ 1
unfolding mask_row
mask_row-wide s v = refl

pub element_row-wide : (s : List ℕ) (blocks e : ℕ) → length (element_row s blocks e) ≡ 4
unfolding element_row
element_row-wide s blocks e = refl

-- the words of a field
field_words-wide : (f : Field) → length (field_words f) ≡ field_size
unfolding field_words
field_words-wide (Level c) = refl
field_words-wide (Plane n d) = refl
field_words-wide (Ball c r) = refl

pub place_words-wide : (count : ℕ) (fields : List Field) (j : ℕ) → length (place_words count fields j) ≡ field_size
unfolding place_words
place_words-wide count fields j = by (nat_lt j count)
  where
    by : (b : Bool) → length (cond b (field_words (slice_index_or fields j (Level zero64))) (zero_words field_size)) ≡ field_size
    by true = field_words-wide (slice_index_or fields j (Level zero64))
    by false = refl

pub vertex_record-wide : (parameters points : List Float) (masks : List ℕ) (v : ℕ) → length (vertex_record parameters points masks v) ≡ 13
unfolding vertex_record
vertex_record-wide parameters points masks v = refl

pub element_record-wide : (corners : List ℕ) (e : ℕ) → length (element_record corners e) ≡ 4
unfolding element_record
element_record-wide corners e = refl

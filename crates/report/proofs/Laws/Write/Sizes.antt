-- How long the parts of a written file are. Assumes nothing.
use Rattle.std.proofs.Common.{◌≡◌, ℕ, ◌+◌, ◌-◌, ◌*◌, ◌≤◌, min, eqb, ltb, leb, List, [], ◌∷◌, length, get_or, refl, inl, inr, arith, length-append}
use lib.Ieee.{Float}
use lib.ListN.{length-replicate}
use Rattle.geometry.specs.declared.bounds.Options.{Options}
use Rattle.geometry.specs.declared.field.Field.{Field}
use Rattle.geometry.specs.declared.field.Field.TheVariants.{Level, Plane, Ball}
use Rattle.geometry.specs.Float.{zero64}
use Rattle.mesh.specs.Words.{zero_words}
use Rattle.mesh.proofs.Laws.Bools.{split}
use Rattle.report.specs.Format.{words_a_block, vertex_kind, element_kind, first_record, record_room, vertex_size, vertices_a_block, element_size, elements_a_block, field_places, field_size, header_size}
use Rattle.report.specs.Bytes.{listed}
use Rattle.report.specs.Block.{Plot, vertex_blocks}
use Rattle.report.specs.Write.{total_of, check_of, closed, block_front, bounds_words, options_words, field_words, place_words, header_record, header_front, vertex_record, element_record, records_from, vertex_front, element_front, file_front, file_block}
use Rattle.report.proofs.Laws.Listed.{length-listed}

-- a field
pub field-length : (f : Field) → length (field_words f) ≡ field_size
unfolding field_words
field-length (Level c) = refl
field-length (Plane n d) = refl
field-length (Ball c r) = refl

-- a field's place
pub place-length : (count : ℕ) (fields : List Field) (j : ℕ) → length (place_words count fields j) ≡ field_size
unfolding place_words
place-length count fields j = elim (split (ltb j count)) [ inl t ↦ rw t (field-length (get_or fields j (Level zero64))) | inr f ↦ rw f ]

-- the header's record
pub header-length : (o : Options) (count : ℕ) (fields : List Field) (vertices elements : ℕ) → length (header_record o count fields vertices elements) ≡ header_size
unfolding header_record options_words bounds_words
header-length o count fields vertices elements = let l = length-listed (place_words count fields) field_size (place-length count fields) field_places in omega arith

-- the spare words of the header
pub header-rest : (o : Options) (count : ℕ) (fields : List Field) (vertices elements : ℕ) → record_room - header_size ≡ record_room - length (header_record o count fields vertices elements)
header-rest o count fields vertices elements = let l = header-length o count fields vertices elements in omega arith

-- vertex records
pub vertex-length : (parameters points : List Float) (masks : List ℕ) (v : ℕ) → length (vertex_record parameters points masks v) ≡ vertex_size
unfolding vertex_record
vertex-length parameters points masks v = refl

pub vertices-length : (parameters points : List Float) (masks : List ℕ) (first n : ℕ) → length (records_from (vertex_record parameters points masks) first n) ≡ n * vertex_size
vertices-length parameters points masks first n = length-listed (λ (r : ℕ). vertex_record parameters points masks (first + r)) vertex_size (λ r. vertex-length parameters points masks (first + r)) n

-- element records
pub element-length : (corners : List ℕ) (e : ℕ) → length (element_record corners e) ≡ element_size
unfolding element_record
element-length corners e = refl

pub elements-length : (corners : List ℕ) (first n : ℕ) → length (records_from (element_record corners) first n) ≡ n * element_size
elements-length corners first n = length-listed (λ (r : ℕ). element_record corners (first + r)) element_size (λ r. element-length corners (first + r)) n

-- words 0 to 126 of a block
pub front_length : (kind number count : ℕ) (records : List ℕ) → length records ≤ record_room → length (block_front kind number count records) ≡ first_record + record_room
unfolding block_front
front_length kind number count records h =
    let a = length-append records (zero_words (record_room - length records)) in
    let b = length-replicate {A = ℕ} (record_room - length records) 0 in
    omega arith

file-front-length : (p : Plot) (k : ℕ) → length (file_front p k) ≡ first_record + record_room
unfolding file_front header_front vertex_front element_front
file-front-length p k = elim (split (eqb k 0)) [
  | inl t ↦ rw t (let l = header-length p.options p.count p.fields p.vertices p.elements in
      front_length 1 0 1 (header_record p.options p.count p.fields p.vertices p.elements) (omega arith))
  | inr f ↦ rw f (elim (split (leb k (vertex_blocks p.vertices))) [
    | inl t ↦ rw t (vertices (min vertices_a_block (p.vertices - vertices_a_block * (k - 1))) (omega arith))
    | inr g ↦ rw g (elements (min elements_a_block (p.elements - elements_a_block * (k - 1 - vertex_blocks p.vertices))) (omega arith))
  ])
]
  where
    vertices : (n : ℕ) → n ≤ vertices_a_block → length (block_front vertex_kind k n (records_from (vertex_record p.parameters p.points p.masks) (vertices_a_block * (k - 1)) n)) ≡ first_record + record_room
    vertices n h =
        let l = vertices-length p.parameters p.points p.masks (vertices_a_block * (k - 1)) n in
        front_length vertex_kind k n (records_from (vertex_record p.parameters p.points p.masks) (vertices_a_block * (k - 1)) n) (omega arith)

    elements : (n : ℕ) → n ≤ elements_a_block → length (block_front element_kind k n (records_from (element_record p.corners) (elements_a_block * (k - 1 - vertex_blocks p.vertices)) n)) ≡ first_record + record_room
    elements n h =
        let l = elements-length p.corners (elements_a_block * (k - 1 - vertex_blocks p.vertices)) n in
        front_length element_kind k n (records_from (element_record p.corners) (elements_a_block * (k - 1 - vertex_blocks p.vertices)) n) (omega arith)

-- a block of the file
pub block-length : (p : Plot) (k : ℕ) → length (file_block p k) ≡ words_a_block
unfolding closed
block-length p k =
    let a = length-append (file_front p k) (check_of (total_of (file_front p k)) ∷ []) in
    let b = file-front-length p k in
    omega arith

-- blocks of the file
pub blocks-length : (p : Plot) (n : ℕ) → length (listed (file_block p) n) ≡ n * words_a_block
blocks-length p n = length-listed (file_block p) words_a_block (block-length p) n

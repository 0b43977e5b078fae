-- A file that is read, no float of it a NaN, has the blocks that the writer makes of what is read: the records by the rows that are read,
-- the spare words by their zeros, word 127 by the sum. Assumes nothing.
use Rattle.std.proofs.Common.{◌≡◌, ℕ, zero, suc, ◌+◌, ◌-◌, ◌*◌, ◌^◌, ◌<◌, ◌≤◌, min, false, List, [], ◌∷◌, ◌++◌, length, get_or, sym, refl, ap, ◌∙◌, inl, inr, arith, le-leb}
use lib.Ieee.{Float, is_nan}
use borrow.Author.Tests.{lt-leb}
use Rattle.geometry.specs.Float.{zero64}
use Rattle.mesh.specs.Words.{word_at, float_at, point_in, zero_words}
use Rattle.mesh.proofs.Laws.Parts.{side}
use Rattle.report.specs.Format.{words_a_block, header_kind, vertex_kind, element_kind, first_record, record_room, record_size, vertex_size, vertices_a_block, element_size, elements_a_block}
use Rattle.report.specs.Bytes.{byte_at, word_in, float_in, listed}
use Rattle.report.specs.Block.{rest_zero, vertex_blocks, vertices_in, elements_in, header_options, fields_in, header_fields, vertex_place, parameter_row, point_row, mask_row, element_place, element_row, reading_number, plot_in}
use Rattle.report.specs.Write.{point_words, block_front, closed, header_record, header_front, vertex_record, element_record, records_from, vertex_front, element_front, file_front, file_block, blocks_of, NoNan}
use Rattle.report.proofs.Laws.Spare.{spare-rest}
use Rattle.report.proofs.Laws.Write.Words.{listed_at}
use Rattle.report.proofs.Laws.Write.Sizes.{header-length, vertex-length, vertices-length, element-length, elements-length, front_length}
use Rattle.report.proofs.Laws.Write.Holds.{Holds, held_move, held-append, held_rows, held-zeros, held_word, held-point, held-closed}
use Rattle.report.proofs.Laws.Write.Numbers.{vertex-front, element-front}
use Rattle.report.proofs.Laws.Passed.{Passed, header-passed, next-passed}
use Rattle.report.proofs.Laws.Write.Again.{word_small}
use Rattle.report.proofs.Laws.Write.Places.{header-held}

-- ---- places

-- the place i of rows of w places, which is the place j of the row k
row_at : {A : Type 0} (row : ℕ → List A) (w : ℕ) (d : A) → ((k : ℕ) → length (row k) ≡ w) → (n k j i : ℕ) → k < n → j < w → i ≡ k * w + j
    → get_or (listed row n) i d ≡ get_or (row k) j d
row_at row w d size n k j i l g e = ap (λ (a : ℕ). get_or (listed row n) a d) e ∙ listed_at row w d size n k j l g

-- where the record r of the block k of vertices is
vertex-place : (k r : ℕ) → 0 < k → r < vertices_a_block → words_a_block * k + first_record + r * vertex_size ≡ vertex_place (vertices_a_block * (k - 1) + r)
unfolding vertex_place
vertex-place k r some l = omega arith

-- and of elements
element_place_lem : (k before r : ℕ) → before < k → r < elements_a_block
    → words_a_block * k + first_record + r * element_size ≡ element_place (1 + before) (elements_a_block * (k - 1 - before) + r)
unfolding element_place
element_place_lem k before r some l = omega arith

-- ---- a block with its records

module _ (s : List ℕ) (small : (i : ℕ) → word_in s i < 2 ^ 32) where
  module _ (k kind count : ℕ) (records : List ℕ) (passed : Passed s k kind count) (size : length records ≡ record_size kind * count)
      (h : Holds s (words_a_block * k + first_record) records) where
    abbrev base : ℕ
    base = words_a_block * k

    -- the spare words behind the records
    spare-held : Holds s (base + first_record + length records) (zero_words (record_room - length records))
    unfolding rest_zero
    spare-held =
        rw size (held-zeros s (base + first_record + record_size kind * count) (record_room - record_size kind * count)
        (spare-rest s k kind count passed.spare))

    -- words 0 to 126
    front-held : Holds s base (block_front kind k count records)
    unfolding block_front
    front-held =
        let rest = records ++ zero_words (record_room - length records) in
        held-append s base (base + 1) (kind ∷ []) (k ∷ count ∷ rest) refl (held_word s small base kind passed.kind-is)
        (held-append s (base + 1) (base + 2) (k ∷ []) (count ∷ rest) (omega arith) (held_word s small (base + 1) k passed.number_is)
        (held-append s (base + 2) (base + first_record) (count ∷ []) rest (omega arith) (held_word s small (base + 2) count passed.count-is)
        (held-append s (base + first_record) (base + first_record + length records) records (zero_words (record_room - length records)) refl h spare-held)))

    -- a block with its records
    block_held : length records ≤ record_room → Holds s (words_a_block * k) (closed (block_front kind k count records))
    block_held l = held-closed s small base (block_front kind k count records) 127 (front_length kind k count records l) front-held passed.sum

-- ---- the records that are read

module _ (s : List ℕ) (byte : (i : ℕ) → byte_at s i < 256) (number : reading_number s ≡ 0) (ok : NoNan (plot_in s)) where
  -- every word is below 2^32
  small : (i : ℕ) → word_in s i < 2 ^ 32
  small = word_small s byte

  abbrev vertices : ℕ
  vertices = vertices_in s

  abbrev elements : ℕ
  elements = elements_in s

  abbrev params : List Float
  params = listed (parameter_row s) vertices

  abbrev points : List Float
  points = listed (point_row s) vertices

  abbrev masks : List ℕ
  masks = listed (mask_row s) vertices

  abbrev before : ℕ
  before = vertex_blocks vertices

  abbrev corners : List ℕ
  corners = listed (element_row s (1 + before)) elements

  -- three floats of the vertex v
  point-held : (row : ℕ → List Float) → ((k : ℕ) → length (row k) ≡ 3) → ((i : ℕ) → is_nan (float_at (listed row vertices) i) ≡ false)
      → (v base : ℕ) → v < vertices
      → float_in s base ≡ get_or (row v) 0 zero64 → float_in s (base + 2) ≡ get_or (row v) 1 zero64 → float_in s (base + 4) ≡ get_or (row v) 2 zero64
      → Holds s base (point_words (point_in (listed row vertices) v))
  unfolding point_in
  point-held row size numbers v base l e f g =
      held-point s small base (point_in (listed row vertices) v)
      (e ∙ sym (row_at row 3 zero64 size vertices v 0 (3 * v) l (omega arith) (omega arith)))
      (f ∙ sym (row_at row 3 zero64 size vertices v 1 (3 * v + 1) l (omega arith) (omega arith)))
      (g ∙ sym (row_at row 3 zero64 size vertices v 2 (3 * v + 2) l (omega arith) (omega arith)))
      (record { x-number = numbers (3 * v); y-number = numbers (3 * v + 1); z-number = numbers (3 * v + 2) })

  -- the record of the vertex v
  vertex-held : (v : ℕ) → v < vertices → Holds s (vertex_place v) (vertex_record params points masks v)
  unfolding vertex_record plot_in parameter_row point_row mask_row
  vertex-held v l =
      let base = vertex_place v in
      let y : base + 6 + 2 ≡ base + 8 = omega arith in
      let z : base + 6 + 4 ≡ base + 10 = omega arith in
      held-append s base (base + 6) (point_words (point_in params v)) (point_words (point_in points v) ++ (word_at masks v ∷ [])) refl
      (point-held (parameter_row s) (λ k. refl) ok.parameters-number v base l refl refl refl)
      (held-append s (base + 6) (base + 12) (point_words (point_in points v)) (word_at masks v ∷ []) (omega arith)
      (point-held (point_row s) (λ k. refl) ok.points-number v (base + 6) l refl (ap (float_in s) y) (ap (float_in s) z))
      (held_word s small (base + 12) (word_at masks v) (sym (row_at (mask_row s) 1 0 (λ k. refl) vertices v 0 v l (omega arith) (omega arith)))))

  -- the record of the element e
  element-held : (e : ℕ) → e < elements → Holds s (element_place (1 + before) e) (element_record corners e)
  unfolding element_record element_row
  element-held e l =
      let base = element_place (1 + before) e in
      let b = word_at corners (4 * e + 1) in
      let c = word_at corners (4 * e + 2) in
      let d = word_at corners (4 * e + 3) in
      held-append s base (base + 1) (word_at corners (4 * e) ∷ []) (b ∷ c ∷ d ∷ []) refl (corner 0 (4 * e) base (omega arith) (omega arith) refl)
      (held-append s (base + 1) (base + 2) (b ∷ []) (c ∷ d ∷ []) (omega arith) (corner 1 (4 * e + 1) (base + 1) (omega arith) (omega arith) refl)
      (held-append s (base + 2) (base + 3) (c ∷ []) (d ∷ []) (omega arith) (corner 2 (4 * e + 2) (base + 2) (omega arith) (omega arith) refl)
      (corner 3 (4 * e + 3) (base + 3) (omega arith) (omega arith) refl)))
    where
      corner : (j i q : ℕ) → j < 4 → i ≡ e * 4 + j → word_in s q ≡ get_or (element_row s (1 + before) e) j 0 → Holds s q (word_at corners i ∷ [])
      corner j i q g f h = held_word s small q (word_at corners i) (h ∙ sym (row_at (element_row s (1 + before)) 4 0 (λ k. refl) elements e j i l g f))

  -- ---- the blocks

  -- the block k, of vertices
  vertices-held : (k : ℕ) → 0 < k → k ≤ before → Holds s (words_a_block * k) (closed (vertex_front params points masks vertices k))
  unfolding vertex_front
  vertices-held k some l =
      let row = vertex_record params points masks in
      let first = vertices_a_block * (k - 1) in
      let n = min vertices_a_block (vertices - first) in
      let size = vertices-length params points masks first n in
      let passed : Passed s k vertex_kind n = rw (le-leb k before l) at (next-passed s number k some (omega arith)) in
      block_held s small k vertex_kind n (records_from row first n) passed (omega arith)
      (held_rows s (words_a_block * k + first_record) (λ (r : ℕ). row (first + r)) vertex_size (λ r. vertex-length params points masks (first + r)) n
      (λ r u. held_move s (vertex_place (first + r)) (words_a_block * k + first_record + r * vertex_size) (row (first + r))
      (vertex-place k r some (omega arith)) (vertex-held (first + r) (omega arith))))
      (omega arith)

  -- the block k, of elements
  elements-held : (k : ℕ) → before < k → k < blocks_of vertices elements → Holds s (words_a_block * k) (closed (element_front corners elements before k))
  unfolding element_front
  elements-held k some l =
      let row = element_record corners in
      let first = elements_a_block * (k - 1 - before) in
      let n = min elements_a_block (elements - first) in
      let size = elements-length corners first n in
      let passed : Passed s k element_kind n = rw (lt-leb k before some) at (next-passed s number k (omega arith) l) in
      block_held s small k element_kind n (records_from row first n) passed (omega arith)
      (held_rows s (words_a_block * k + first_record) (λ (r : ℕ). row (first + r)) element_size (λ r. element-length corners (first + r)) n
      (λ r u. held_move s (element_place (1 + before) (first + r)) (words_a_block * k + first_record + r * element_size) (row (first + r))
      (element_place_lem k before r some (omega arith)) (element-held (first + r) (omega arith))))
      (omega arith)

  -- every block
  pub all_held : (k : ℕ) → k < blocks_of (vertices_in s) (elements_in s) → Holds s (words_a_block * k) (file_block (plot_in s) k)
  unfolding file_front header_front plot_in
  all_held zero l =
      let size = header-length (header_options s) (fields_in s) (header_fields s) vertices elements in
      block_held s small 0 header_kind 1 (header_record (header_options s) (fields_in s) (header_fields s) vertices elements)
      (header-passed s number) (omega arith) (header-held s byte number ok) (omega arith)
  all_held (suc i) l = elim (side before (suc i)) [
    | inl g ↦ rw (element-front (plot_in s) (suc i) g) (elements-held (suc i) g l)
    | inr g ↦ rw (vertex-front (plot_in s) (suc i) (omega arith) g) (vertices-held (suc i) (omega arith) g)
  ]

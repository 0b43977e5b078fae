-- No number applies to the blocks of a written file: each is whole, adds to 0, has what is expected and no leftovers. Assumes nothing.
use Rattle.std.proofs.Common.{◌≡◌, ℕ, zero, suc, ◌+◌, ◌-◌, ◌*◌, ◌%◌, ◌^◌, ◌<◌, ◌≤◌, min, true, leb, List, length, sym, refl, ap, ◌∙◌, inl, inr, arith, le-ltb, eq-eqb, ne_eqb, le-leb, leb-false, leb-true}
use borrow.Author.Tests.{lt-leb}
use Rattle.mesh.proofs.Laws.Bools.{split}
use Rattle.report.specs.Format.{words_a_block, bytes_a_block, header_kind, vertex_kind, element_kind, vertices_a_block, elements_a_block, most_vertices, most_elements}
use Rattle.report.specs.Bytes.{word_in, sum_of}
use Rattle.report.specs.Block.{Plot, spare_zero, adds_to_zero, block_number, vertex_blocks, element_blocks, kind_of, count_of, blocks_from, body_number, file_number, reading_number}
use Rattle.report.specs.Write.{block_front, header_record, header_front, vertex_record, element_record, records_from, vertex_front, element_front, file_front, file_block, blocks_of, file_of, Sound}
use Rattle.report.proofs.Laws.Write.Words.{sum_back, closed-total}
use Rattle.report.proofs.Laws.Write.Sizes.{vertices-length, elements-length, block-length}
use Rattle.report.proofs.Laws.Write.Files.{file-length}
use Rattle.report.proofs.Laws.Write.Holds.{Holds, word-at}
use Rattle.report.proofs.Laws.Write.Header.{block-holds, front-holds, vertices-back, elements-back, kinds-back}
use Rattle.report.proofs.Laws.Write.Spare.{block-spare, header-spare}

module _ (p : Plot) where
  abbrev blocks : ℕ
  blocks = blocks_of p.vertices p.elements

  -- ---- the blocks

  -- "all 128 words add to 0 modulo 2^32"
  adds : (k : ℕ) → k < blocks → adds_to_zero (file_of p) k ≡ true
  unfolding adds_to_zero
  adds k l =
      let b = file_block p k in
      let sum = sum_back (file_of p) (words_a_block * k) b (λ j h. block-holds p k l j (words_a_block * k + j) refl h) in
      let all : sum_of (file_of p) (words_a_block * k) words_a_block % 2 ^ 32 ≡ 0 =
      ap (λ (n : ℕ). sum_of (file_of p) (words_a_block * k) n % 2 ^ 32) (sym (block-length p k)) ∙ (sum ∙ closed-total (file_front p k)) in
      eq-eqb (sum_of (file_of p) (words_a_block * k) words_a_block % 2 ^ 32) 0 all

  -- a block with the kind and count that it is written with
  block-zero : (k kind count : ℕ) (records : List ℕ) → k < blocks → k < 2 ^ 32 → kind < 2 ^ 32 → count < 2 ^ 32
      → file_front p k ≡ block_front kind k count records → spare_zero (file_of p) k kind count ≡ true → block_number (file_of p) k kind count ≡ 0
  unfolding block_number block_front
  block-zero k kind count records l small kind-small count_small e spare =
      let whole = file-length p in
      let h : Holds (file_of p) (words_a_block * k) (block_front kind k count records) = rw e at (front-holds p k l) in
      let a : word_in (file_of p) (words_a_block * k) ≡ kind = word-at (file_of p) (words_a_block * k) (block_front kind k count records) h 0 (words_a_block * k) kind (omega arith) (omega arith) refl kind-small in
      let b : word_in (file_of p) (words_a_block * k + 1) ≡ k = word-at (file_of p) (words_a_block * k) (block_front kind k count records) h 1 (words_a_block * k + 1) k refl (omega arith) refl small in
      let c : word_in (file_of p) (words_a_block * k + 2) ≡ count = word-at (file_of p) (words_a_block * k) (block_front kind k count records) h 2 (words_a_block * k + 2) count refl (omega arith) refl count_small in
      rw (le-ltb (length (file_of p)) (bytes_a_block * (k + 1)) (omega arith), adds k l, a, b, c, eq-eqb kind kind refl, eq-eqb k k refl, eq-eqb count count refl, spare)

  -- a block of vertices is written as such
  pub vertex-front : (k : ℕ) → 0 < k → k ≤ vertex_blocks p.vertices → file_front p k ≡ vertex_front p.parameters p.points p.masks p.vertices k
  unfolding file_front
  vertex-front k some h = rw (ne_eqb k 0 (λ z. omega arith), le-leb k (vertex_blocks p.vertices) h)

  -- and a block of elements
  pub element-front : (k : ℕ) → vertex_blocks p.vertices < k → file_front p k ≡ element_front p.corners p.elements (vertex_blocks p.vertices) k
  unfolding file_front
  element-front k h = rw (ne_eqb k 0 (λ z. omega arith), lt-leb k (vertex_blocks p.vertices) h)

  module _ (ok : Sound p) where
    -- a block of vertices
    vertex-zero : (k : ℕ) → 0 < k → k < blocks → k ≤ vertex_blocks p.vertices → block_number (file_of p) k vertex_kind (min vertices_a_block (p.vertices - vertices_a_block * (k - 1))) ≡ 0
    unfolding vertex_front
    vertex-zero k some l h =
        let few = ok.vertices-few in
        let less = ok.elements-few in
        let first = vertices_a_block * (k - 1) in
        let n = min vertices_a_block (p.vertices - first) in
        let records = records_from (vertex_record p.parameters p.points p.masks) first n in
        let size = vertices-length p.parameters p.points p.masks first n in
        let front = vertex-front k some h in
        block-zero k vertex_kind n records l (omega arith) (omega arith) (omega arith) front (block-spare p k vertex_kind n records l front (omega arith) refl)

    -- a block of elements
    element-zero : (k : ℕ) → k < blocks → vertex_blocks p.vertices < k
        → block_number (file_of p) k element_kind (min elements_a_block (p.elements - elements_a_block * (k - 1 - vertex_blocks p.vertices))) ≡ 0
    unfolding element_front
    element-zero k l h =
        let few = ok.vertices-few in
        let less = ok.elements-few in
        let first = elements_a_block * (k - 1 - vertex_blocks p.vertices) in
        let n = min elements_a_block (p.elements - first) in
        let records = records_from (element_record p.corners) first n in
        let size = elements-length p.corners first n in
        let front = element-front k h in
        block-zero k element_kind n records l (omega arith) (omega arith) (omega arith) front (block-spare p k element_kind n records l front (omega arith) refl)

    -- the block k behind the header has what is expected
    next-zero : (k : ℕ) → 0 < k → k < blocks → block_number (file_of p) k (kind_of p.vertices k) (count_of p.vertices p.elements k) ≡ 0
    next-zero k some l = elim (split (leb k (vertex_blocks p.vertices))) [
      | inl t ↦ rw t (vertex-zero k some l (leb-true k (vertex_blocks p.vertices) t))
      | inr f ↦ rw f (element-zero k l (leb-false k (vertex_blocks p.vertices) f))
    ]

    -- so have all, and nothing is behind the last
    rest-zero : (n k : ℕ) → 0 < k → k + n ≡ blocks → blocks_from (file_of p) p.vertices p.elements n k ≡ 0
    unfolding blocks_from
    rest-zero zero k some e = let whole = file-length p in rw (le-ltb (bytes_a_block * k) (length (file_of p)) (omega arith))
    rest-zero (suc n) k some e = rw (next-zero k some (omega arith)) (rest-zero n (k + 1) (omega arith) (omega arith))

    header-zero : block_number (file_of p) 0 header_kind 1 ≡ 0
    unfolding file_front header_front
    header-zero =
        let records = header_record p.options p.count p.fields p.vertices p.elements in
        block-zero 0 header_kind 1 records (omega arith) (omega arith) (omega arith) (omega arith) refl (header-spare p ok)

    file-zero : file_number (file_of p) ≡ 0
    unfolding file_number body_number
    file-zero =
        rw (header-zero, vertices-back p ok, elements-back p ok, le-ltb most_vertices p.vertices ok.vertices-few, le-ltb most_elements p.elements ok.elements-few)
        (rest-zero (vertex_blocks p.vertices + element_blocks p.elements) 1 (omega arith) (omega arith))

    -- the file has no number
    pub number-zero : reading_number (file_of p) ≡ 0
    unfolding reading_number
    number-zero = rw (file-zero, kinds-back p ok)

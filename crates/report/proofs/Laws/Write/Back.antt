-- What is written is read back: the file of a sound plot is read, and gives the plot. Assumes nothing.
use Rattle.std.proofs.Common.{◌≡◌, ℕ, ◌+◌, ◌-◌, ◌*◌, ◌/◌, ◌%◌, ◌<◌, ◌≤◌, min, true, ltb, List, [], ◌∷◌, length, get_or, take, drop, refl, ap, ◌∙◌, inl, inr, arith, take_all, take_at, ltb-false}
use Rattle.geometry.specs.declared.field.Field.{Field}
use Rattle.geometry.specs.declared.field.Field.TheVariants.{Level}
use Rattle.geometry.specs.Float.{zero64}
use Rattle.mesh.specs.Words.{word_at, float_at, point_in}
use Rattle.mesh.proofs.Laws.Bools.{split}
use Rattle.report.specs.Format.{words_a_block, bytes_a_block, first_record, vertex_size, vertices_a_block, element_size, elements_a_block, field_places}
use Rattle.report.specs.Bytes.{listed}
use Rattle.report.specs.Block.{Plot, vertex_blocks, vertex_place, parameter_row, point_row, mask_row, element_place, element_row, plot_in, reading}
use Rattle.report.specs.Block.{read}
use Rattle.report.specs.Write.{vertex_record, element_record, records_from, vertex_front, element_front, blocks_of, file_of, has_room, file_into, file_size, kept_field, kept, Sound, Exact}
use Rattle.report.proofs.Laws.Prefix.{listed_same}
use Rattle.report.proofs.Laws.Write.Sizes.{vertex-length, element-length}
use Rattle.report.proofs.Laws.Write.Files.{file-length}
use Rattle.report.proofs.Laws.Write.Holds.{Holds, holds_row, word-at, float-at}
use Rattle.report.proofs.Laws.Write.Rows.{rows-one, rows-three, rows_four}
use Rattle.report.proofs.Laws.Write.Header.{records-hold, vertices-back, elements-back, count-back, options-back, field_back}
use Rattle.report.proofs.Laws.Write.Numbers.{vertex-front, element-front, number-zero}

-- ---- a plot's records

module _ (p : Plot) (ok : Sound p) where
  -- the record of the vertex v
  vertex-holds : (v : ℕ) → v < p.vertices → Holds (file_of p) (vertex_place v) (vertex_record p.parameters p.points p.masks v)
  unfolding vertex_place vertex_front
  vertex-holds v l =
      let k = 1 + v / vertices_a_block in
      let row = vertex_record p.parameters p.points p.masks in
      let first = vertices_a_block * (k - 1) in
      let n = min vertices_a_block (p.vertices - first) in
      let some : k ≤ vertex_blocks p.vertices = omega arith in
      let at : first + v % vertices_a_block ≡ v = omega arith in
      let h = records-hold p k 2 k n (records_from row first n) (omega arith) (vertex-front p k (omega arith) some) in
      let g = holds_row (file_of p) (words_a_block * k + first_record) (words_a_block * k + first_record + vertex_size * (v % vertices_a_block)) (λ (r : ℕ). row (first + r)) vertex_size n (v % vertices_a_block) (λ r. vertex-length p.parameters p.points p.masks (first + r)) (omega arith) (omega arith) h in
      rw at at g

  -- the record of the element e
  element-holds : (e : ℕ) → e < p.elements → Holds (file_of p) (element_place (1 + vertex_blocks p.vertices) e) (element_record p.corners e)
  unfolding element_place element_front
  element-holds e l =
      let b = vertex_blocks p.vertices in
      let k = 1 + b + e / elements_a_block in
      let row = element_record p.corners in
      let first = elements_a_block * (k - 1 - b) in
      let n = min elements_a_block (p.elements - first) in
      let at : first + e % elements_a_block ≡ e = omega arith in
      let h = records-hold p k 3 k n (records_from row first n) (omega arith) (element-front p k (omega arith)) in
      let g = holds_row (file_of p) (words_a_block * k + first_record) (words_a_block * k + first_record + element_size * (e % elements_a_block)) (λ (r : ℕ). row (first + r)) element_size n (e % elements_a_block) (λ r. element-length p.corners (first + r)) (omega arith) (omega arith) h in
      rw at at g

  abbrev record_of : ℕ → List ℕ
  record_of v = vertex_record p.parameters p.points p.masks v

  -- the parameters of the vertex v
  parameter-back : (v : ℕ) → v < p.vertices
      → parameter_row (file_of p) v ≡ float_at p.parameters (3 * v) ∷ float_at p.parameters (3 * v + 1) ∷ float_at p.parameters (3 * v + 2) ∷ []
  unfolding parameter_row vertex_record point_in
  parameter-back v l =
      let h = vertex-holds v l in
      let q = p.parameters in
      rw (
        float-at (file_of p) (vertex_place v) (record_of v) h 0 (vertex_place v) (float_at q (3 * v)) (ok.parameters-fit (3 * v)) (omega arith) (omega arith) refl refl,
        float-at (file_of p) (vertex_place v) (record_of v) h 2 (vertex_place v + 2) (float_at q (3 * v + 1)) (ok.parameters-fit (3 * v + 1)) refl (omega arith) refl refl,
        float-at (file_of p) (vertex_place v) (record_of v) h 4 (vertex_place v + 4) (float_at q (3 * v + 2)) (ok.parameters-fit (3 * v + 2)) refl (omega arith) refl refl,
      )

  -- its point
  point-back : (v : ℕ) → v < p.vertices
      → point_row (file_of p) v ≡ float_at p.points (3 * v) ∷ float_at p.points (3 * v + 1) ∷ float_at p.points (3 * v + 2) ∷ []
  unfolding point_row vertex_record point_in
  point-back v l =
      let h = vertex-holds v l in
      let q = p.points in
      rw (
        float-at (file_of p) (vertex_place v) (record_of v) h 6 (vertex_place v + 6) (float_at q (3 * v)) (ok.points-fit (3 * v)) refl (omega arith) refl refl,
        float-at (file_of p) (vertex_place v) (record_of v) h 8 (vertex_place v + 8) (float_at q (3 * v + 1)) (ok.points-fit (3 * v + 1)) refl (omega arith) refl refl,
        float-at (file_of p) (vertex_place v) (record_of v) h 10 (vertex_place v + 10) (float_at q (3 * v + 2)) (ok.points-fit (3 * v + 2)) refl (omega arith) refl refl,
      )

  -- its mask
  mask-back : (v : ℕ) → v < p.vertices → mask_row (file_of p) v ≡ word_at p.masks v ∷ []
  unfolding mask_row vertex_record point_in
  mask-back v l = rw (word-at (file_of p) (vertex_place v) (record_of v) (vertex-holds v l) 12 (vertex_place v + 12) (word_at p.masks v) refl (omega arith) refl (ok.masks-small v))

  -- the vertices of the element e
  element-back : (e : ℕ) → e < p.elements
      → element_row (file_of p) (1 + vertex_blocks p.vertices) e
      ≡ word_at p.corners (4 * e) ∷ word_at p.corners (4 * e + 1) ∷ word_at p.corners (4 * e + 2) ∷ word_at p.corners (4 * e + 3) ∷ []
  unfolding element_row element_record
  element-back e l =
      let h = element-holds e l in
      let q = p.corners in
      let base = element_place (1 + vertex_blocks p.vertices) e in
      rw (
        word-at (file_of p) base (element_record q e) h 0 base (word_at q (4 * e)) (omega arith) (omega arith) refl (ok.corners-small (4 * e)),
        word-at (file_of p) base (element_record q e) h 1 (base + 1) (word_at q (4 * e + 1)) refl (omega arith) refl (ok.corners-small (4 * e + 1)),
        word-at (file_of p) base (element_record q e) h 2 (base + 2) (word_at q (4 * e + 2)) refl (omega arith) refl (ok.corners-small (4 * e + 2)),
        word-at (file_of p) base (element_record q e) h 3 (base + 3) (word_at q (4 * e + 3)) refl (omega arith) refl (ok.corners-small (4 * e + 3)),
      )

  -- ---- the plot

  plot-back : plot_in (file_of p) ≡ kept p
  unfolding plot_in kept
  plot-back =
      rw (
        vertices-back p ok,
        elements-back p ok,
        options-back p ok,
        count-back p ok,
        field_back p ok 0 (omega arith),
        field_back p ok 1 (omega arith),
        field_back p ok 2 (omega arith),
        field_back p ok 3 (omega arith),
        field_back p ok 4 (omega arith),
        field_back p ok 5 (omega arith),
        field_back p ok 6 (omega arith),
        field_back p ok 7 (omega arith),
        listed_same (parameter_row (file_of p)) (λ v. float_at p.parameters (3 * v) ∷ float_at p.parameters (3 * v + 1) ∷ float_at p.parameters (3 * v + 2) ∷ []) p.vertices parameter-back,
        listed_same (point_row (file_of p)) (λ v. float_at p.points (3 * v) ∷ float_at p.points (3 * v + 1) ∷ float_at p.points (3 * v + 2) ∷ []) p.vertices point-back,
        listed_same (mask_row (file_of p)) (λ v. word_at p.masks v ∷ []) p.vertices mask-back,
        listed_same (element_row (file_of p) (1 + vertex_blocks p.vertices)) (λ e. word_at p.corners (4 * e) ∷ word_at p.corners (4 * e + 1) ∷ word_at p.corners (4 * e + 2) ∷ word_at p.corners (4 * e + 3) ∷ []) p.elements element-back,
        rows-three p.parameters zero64 p.vertices ok.parameters-in,
        rows-three p.points zero64 p.vertices ok.points-in,
        rows-one p.masks 0 p.vertices ok.masks-in,
        rows_four p.corners 0 p.elements ok.corners-in,
      )

  -- the file of a sound plot is read, and gives what it holds of the plot
  pub read_back : reading (file_of p) ≡ read (kept p)
  unfolding reading
  read_back = rw (number-zero p ok) (ap read plot-back)

  -- the same of the bytes that the writing leaves in a slice
  pub written_back : (out : List ℕ) → has_room p (length out) ≡ true → reading (take (file_size p (length out)) (file_into p out)) ≡ read (kept p)
  unfolding file_size file_into
  written_back out h =
      rw h (ap reading (take_at (file_of p) (drop (bytes_a_block * blocks_of p.vertices p.elements) out) (bytes_a_block * blocks_of p.vertices p.elements) (file-length p)) ∙ read_back)

-- ---- an exact plot is kept whole

-- a list of eight
eight : {A : Type 0} (l : List A) (d : A) → length l ≡ 8
    → get_or l 0 d ∷ get_or l 1 d ∷ get_or l 2 d ∷ get_or l 3 d ∷ get_or l 4 d ∷ get_or l 5 d ∷ get_or l 6 d ∷ get_or l 7 d ∷ [] ≡ l
unfolding listed
eight l d e = rows-one l d 8 (omega arith) ∙ take_all 8 l (omega arith)

module _ (p : Plot) (whole : Exact p) where
  field-kept : (j : ℕ) → j < field_places → kept_field p.count p.fields j ≡ get_or p.fields j (Level zero64)
  unfolding kept_field
  field-kept j l = elim (split (ltb j p.count)) [ inl t ↦ rw t | inr f ↦ rw f (unused (whole.unused j (ltb-false j p.count f) l)) ]
    where
      unused : {f g : Field} → f ≡ g → g ≡ f
      unused e = cc

  pub kept_same : kept p ≡ p
  unfolding kept
  kept_same =
      let a = whole.parameters-all in
      let b = whole.points-all in
      let c = whole.masks-all in
      let d = whole.corners-all in
      rw (
        field-kept 0 (omega arith),
        field-kept 1 (omega arith),
        field-kept 2 (omega arith),
        field-kept 3 (omega arith),
        field-kept 4 (omega arith),
        field-kept 5 (omega arith),
        field-kept 6 (omega arith),
        field-kept 7 (omega arith),
        eight p.fields (Level zero64) whole.fields-all,
        take_all (3 * p.vertices) p.parameters (omega arith),
        take_all (3 * p.vertices) p.points (omega arith),
        take_all p.vertices p.masks (omega arith),
        take_all (4 * p.elements) p.corners (omega arith),
      )

  -- an exact plot that is written is the plot that is read
  pub same_back : Sound p → reading (file_of p) ≡ read p
  same_back ok = read_back p ok ∙ ap read kept_same

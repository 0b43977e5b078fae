-- No byte past those that decide changes the answer: the first 2,561 bytes suffice, 5 blocks and a byte behind them. Assumes nothing.
use Rattle.std.proofs.Common.{◌≡◌, ℕ, zero, suc, ◌+◌, ◌-◌, ◌*◌, ◌/◌, ◌<◌, ◌≤◌, Bool, false, cond, ◌&&◌, ◌||◌, eqb, ltb, leb, List, ◌++◌, length, take, sym, refl, ap, ◌∙◌, ap₂, inl, inr, arith, length-take, get_or-take, ltb-false, ltb-true, le-ltb, lt-ltb, eqb-true, leb-true}
use Rattle.mesh.proofs.Laws.Bools.{split}
use Rattle.mesh.proofs.Laws.Intake.Chains.{neither_left, neither_right}
use Rattle.mesh.specs.Words.{numbers}
use Rattle.mesh.specs.Tests.{every}
use Rattle.report.specs.Format.{words_a_block, bytes_a_block, first_record, record_room, record_size, vertices_a_block, elements_a_block, bounds_place, cells_place, periodic_place, passes_place, count_place, first_field, field_places, field_size, ball_kind, most_vertices, most_elements}
use Rattle.report.specs.Bytes.{word_in, float_in, point_from, sum_of, listed, first_of}
use Rattle.report.specs.Block.{zeros_from, rest_zero, used_in, place_zero, spare_zero, adds_to_zero, block_number, kind_of, count_of, vertex_blocks, element_blocks, blocks_from, vertices_in, elements_in, body_number, file_number, header_options, fields_in, kind_at, field_from, field_at, kinds_number, vertex_place, parameter_row, point_row, mask_row, element_place, element_row, plot_in, reading_number, reading}
use Rattle.report.specs.Block.{read}
use Rattle.report.proofs.Laws.Limits.{read-few}
use Rattle.report.proofs.Laws.Spare.{zero_at}

-- tests that are alike
pub every-same : (p q : ℕ → Bool) (i n : ℕ) → ((j : ℕ) → i ≤ j → j < i + n → p j ≡ q j) → every p (numbers i n) ≡ every q (numbers i n)
unfolding numbers
every-same p q i zero e = refl
every-same p q i (suc n) e =
    ap₂ (λ (a b : Bool). a && b) (e i (omega arith) (omega arith)) (every-same p q (i + 1) n (λ j g h. e j (omega arith) (omega arith)))

module _ (s : List ℕ) (n : ℕ) where
  -- a word that lies in the front
  pub word-front : (i : ℕ) → 4 * i + 4 ≤ n → word_in (take n s) i ≡ word_in s i
  unfolding word_in
  word-front i h =
      let a = get_or-take n s (4 * i) 0 (omega arith) in
      let b = get_or-take n s (4 * i + 1) 0 (omega arith) in
      let c = get_or-take n s (4 * i + 2) 0 (omega arith) in
      let d = get_or-take n s (4 * i + 3) 0 (omega arith) in
      rw (a, b, c, d)

  -- a sum of words that lie in the front
  pub sum-front : (i k : ℕ) → 4 * (i + k) ≤ n → sum_of (take n s) i k ≡ sum_of s i k
  unfolding sum_of
  sum-front i zero h = refl
  sum-front i (suc k) h = ap₂ (λ (a b : ℕ). a + b) (sum-front i k (omega arith)) (word-front (i + k) (omega arith))

  -- a length is compared alike with what is at most n
  pub length_front : (k : ℕ) → k ≤ n → ltb (length (take n s)) k ≡ ltb (length s) k
  length_front k h =
      let l = length-take n s in
      elim (split (ltb (length s) k)) [
        | inl t ↦ let u = ltb-true (length s) k t in lt-ltb (length (take n s)) k (omega arith) ∙ sym t
        | inr f ↦ let u = ltb-false (length s) k f in le-ltb (length (take n s)) k (omega arith) ∙ sym f
      ]

  pub front_length : (k : ℕ) → k < n → ltb k (length (take n s)) ≡ ltb k (length s)
  front_length k h =
      let l = length-take n s in
      elim (split (ltb k (length s))) [
        | inl t ↦ let u = ltb-true k (length s) t in lt-ltb k (length (take n s)) (omega arith) ∙ sym t
        | inr f ↦ let u = ltb-false k (length s) f in le-ltb k (length (take n s)) (omega arith) ∙ sym f
      ]

  -- words that lie in the front are zero alike
  pub zeros-front : (i m : ℕ) → ((j : ℕ) → i ≤ j → j < i + m → 4 * j + 4 ≤ n) → zeros_from (take n s) i m ≡ zeros_from s i m
  unfolding zeros_from
  zeros-front i m h = every-same (zero_at (take n s)) (zero_at s) i m (λ j g l. ap (λ (w : ℕ). eqb w 0) (word-front j (h j g l)))

  -- the words behind the records of the block k
  pub rest-front : (k kind count : ℕ) → bytes_a_block * (k + 1) ≤ n → rest_zero (take n s) k kind count ≡ rest_zero s k kind count
  unfolding rest_zero
  rest-front k kind count h = behind (record_size kind * count)
    where
      behind : (u : ℕ) → zeros_from (take n s) (words_a_block * k + first_record + u) (record_room - u) ≡ zeros_from s (words_a_block * k + first_record + u) (record_room - u)
      behind u = zeros-front (words_a_block * k + first_record + u) (record_room - u) (λ j g l. omega arith)

  -- the place j of a field uses as many words
  pub used-front : (j : ℕ) → j < field_places → bytes_a_block ≤ n → used_in (take n s) j ≡ used_in s j
  unfolding used_in
  used-front j l h = rw (word-front count_place (omega arith), word-front (first_field + field_size * j) (omega arith))

  -- the spare words of the place j
  pub place-front : (j : ℕ) → j < field_places → bytes_a_block ≤ n → place_zero (take n s) j ≡ place_zero s j
  unfolding place_zero
  place-front j l h =
      rw (used-front j l h) (zeros-front (first_field + field_size * j + used_in s j) (field_size - used_in s j) (λ i g u. omega arith))

  -- the spare words of the block k
  pub spare-front : (k kind count : ℕ) → bytes_a_block * (k + 1) ≤ n → spare_zero (take n s) k kind count ≡ spare_zero s k kind count
  unfolding spare_zero
  spare-front k kind count h =
      rw (rest-front k kind count h, every-same (place_zero (take n s)) (place_zero s) 0 field_places (λ j g l. place-front j (omega arith) (omega arith)))

  -- the block k lies in the front
  pub block-front : (k kind count : ℕ) → bytes_a_block * (k + 1) ≤ n → block_number (take n s) k kind count ≡ block_number s k kind count
  unfolding block_number adds_to_zero
  block-front k kind count h =
      rw (length_front (bytes_a_block * (k + 1)) h, sum-front (words_a_block * k) words_a_block (omega arith), word-front (words_a_block * k) (omega arith), word-front (words_a_block * k + 1) (omega arith), word-front (words_a_block * k + 2) (omega arith), spare-front k kind count h)

  -- blocks that lie in the front with a byte behind them
  pub blocks-front : (v e left k : ℕ) → bytes_a_block * (k + left) < n → blocks_from (take n s) v e left k ≡ blocks_from s v e left k
  unfolding blocks_from
  blocks-front v e zero k h = rw (front_length (bytes_a_block * k) (omega arith))
  blocks-front v e (suc left) k h =
      ap₂ first_of (block-front k (kind_of v k) (count_of v e k) (omega arith)) (blocks-front v e left (k + 1) (omega arith))

  -- the blocks behind the header
  pub body-front : (v e : ℕ) → 2561 ≤ n → body_number (take n s) v e ≡ body_number s v e
  unfolding body_number
  body-front v e h = elim (split (ltb most_vertices v || ltb most_elements e)) [ inl t ↦ rw t | inr f ↦ rw f (blocks-front v e (vertex_blocks v + element_blocks e) 1 (few v e f)) ]
    where
      few : (v e : ℕ) → (ltb most_vertices v || ltb most_elements e) ≡ false → bytes_a_block * (1 + ((v + (vertices_a_block - 1)) / vertices_a_block + (e + (elements_a_block - 1)) / elements_a_block)) < n
      few v e f =
          let a = ltb-false most_vertices v (neither_left (ltb most_vertices v) (ltb most_elements e) f) in
          let b = ltb-false most_elements e (neither_right (ltb most_vertices v) (ltb most_elements e) f) in
          omega arith

  -- the numbers of the blocks
  pub file-front : 2561 ≤ n → file_number (take n s) ≡ file_number s
  unfolding file_number
  file-front h =
      ap₂ first_of (block-front 0 1 1 (omega arith))
      (ap₂ (body_number (take n s)) (word-front 3 (omega arith)) (word-front 4 (omega arith)) ∙ body-front (vertices_in s) (elements_in s) h)

-- ---- the records

-- rows that are alike
pub listed_same : {A : Type 0} (f g : ℕ → List A) (n : ℕ) → ((j : ℕ) → j < n → f j ≡ g j) → listed f n ≡ listed g n
unfolding listed
listed_same f g zero e = refl
listed_same {A} f g (suc n) e = ap₂ (λ (a b : List A). a ++ b) (listed_same f g n (λ j h. e j (omega arith))) (e n (omega arith))

module _ (s : List ℕ) (n : ℕ) (enough : 2561 ≤ n) where
  -- a float in the five blocks
  float-front : (i : ℕ) → i < 639 → float_in (take n s) i ≡ float_in s i
  unfolding float_in
  float-front i h = rw (word-front s n i (omega arith), word-front s n (i + 1) (omega arith))

  point-front : (i : ℕ) → i < 600 → point_from (take n s) i ≡ point_from s i
  unfolding point_from
  point-front i h = rw (float-front i (omega arith), float-front (i + 2) (omega arith), float-front (i + 4) (omega arith))

  options-front : header_options (take n s) ≡ header_options s
  unfolding header_options
  options-front =
      rw (
        float-front bounds_place (omega arith),
        float-front (bounds_place + 2) (omega arith),
        float-front (bounds_place + 4) (omega arith),
        float-front (bounds_place + 6) (omega arith),
        float-front (bounds_place + 8) (omega arith),
        float-front (bounds_place + 10) (omega arith),
        word-front s n cells_place (omega arith),
        word-front s n (cells_place + 1) (omega arith),
        word-front s n (cells_place + 2) (omega arith),
        word-front s n periodic_place (omega arith),
        word-front s n passes_place (omega arith),
      )

  field-front : (j : ℕ) → j < field_places → field_at (take n s) j ≡ field_at s j
  unfolding field_at field_from
  field-front j h =
      rw (word-front s n count_place (omega arith), word-front s n (first_field + field_size * j) (omega arith), float-front (first_field + 1 + field_size * j) (omega arith), point-front (first_field + 1 + field_size * j) (omega arith), float-front (first_field + 1 + field_size * j + 6) (omega arith))

  kinds-front : kinds_number (take n s) ≡ kinds_number s
  unfolding kinds_number
  kinds-front = rw (word-front s n count_place (omega arith)) (elim (split (leb (fields_in s) field_places)) [
    | inl t ↦ rw t (ap (λ (b : Bool). cond b 0 11) (every-same (λ j. leb (kind_at (take n s) j) ball_kind) (λ j. leb (kind_at s j) ball_kind) 0 (fields_in s) (λ j g h. kind j (leb-true (fields_in s) field_places t) h)))
    | inr f ↦ rw f
  ])
    where
      kind : (j : ℕ) → fields_in s ≤ field_places → j < 0 + fields_in s → leb (kind_at (take n s) j) ball_kind ≡ leb (kind_at s j) ball_kind
      kind j h l = rw (word-front s n (first_field + field_size * j) (omega arith))

  vertex-in : (v : ℕ) → v < most_vertices → vertex_place v < 500
  unfolding vertex_place
  vertex-in v h = omega arith

  parameter-front : (v : ℕ) → v < most_vertices → parameter_row (take n s) v ≡ parameter_row s v
  unfolding parameter_row
  parameter-front v h = let p = vertex-in v h in
      rw (float-front (vertex_place v) (omega arith), float-front (vertex_place v + 2) (omega arith), float-front (vertex_place v + 4) (omega arith))

  point-row-front : (v : ℕ) → v < most_vertices → point_row (take n s) v ≡ point_row s v
  unfolding point_row
  point-row-front v h = let p = vertex-in v h in
      rw (float-front (vertex_place v + 6) (omega arith), float-front (vertex_place v + 8) (omega arith), float-front (vertex_place v + 10) (omega arith))

  mask-front : (v : ℕ) → v < most_vertices → mask_row (take n s) v ≡ mask_row s v
  unfolding mask_row
  mask-front v h = let p = vertex-in v h in rw (word-front s n (vertex_place v + 12) (omega arith))

  element-in : (b e : ℕ) → b ≤ 4 → e < most_elements → element_place b e < 630
  unfolding element_place
  element-in b e h g = omega arith

  element-front : (b e : ℕ) → b ≤ 4 → e < most_elements → element_row (take n s) b e ≡ element_row s b e
  unfolding element_row
  element-front b e h g = let p = element-in b e h g in
      rw (word-front s n (element_place b e) (omega arith), word-front s n (element_place b e + 1) (omega arith), word-front s n (element_place b e + 2) (omega arith), word-front s n (element_place b e + 3) (omega arith))

  -- the plot, where the counts are within the limits
  plot-front : vertices_in s ≤ most_vertices → elements_in s ≤ most_elements → plot_in (take n s) ≡ plot_in s
  unfolding plot_in
  plot-front v e =
      let count = word-front s n 3 (omega arith) in
      let counted = word-front s n 4 (omega arith) in
      rw (
        count,
        counted,
        options-front,
        word-front s n count_place (omega arith),
        field-front 0 (omega arith),
        field-front 1 (omega arith),
        field-front 2 (omega arith),
        field-front 3 (omega arith),
        field-front 4 (omega arith),
        field-front 5 (omega arith),
        field-front 6 (omega arith),
        field-front 7 (omega arith),
        listed_same (parameter_row (take n s)) (parameter_row s) (vertices_in s) (λ j h. parameter-front j (omega arith)),
        listed_same (point_row (take n s)) (point_row s) (vertices_in s) (λ j h. point-row-front j (omega arith)),
        listed_same (mask_row (take n s)) (mask_row s) (vertices_in s) (λ j h. mask-front j (omega arith)),
        listed_same (element_row (take n s) (1 + vertex_blocks (vertices_in s))) (element_row s (1 + vertex_blocks (vertices_in s))) (elements_in s) (λ j h. element-front (1 + vertex_blocks (vertices_in s)) j (omega arith) (omega arith)),
      )

  number-front : reading_number (take n s) ≡ reading_number s
  unfolding reading_number
  number-front = ap₂ first_of (file-front s n enough) kinds-front

  -- the reading of the first n bytes is that of all
  pub reading-front : reading (take n s) ≡ reading s
  unfolding reading
  reading-front = rw number-front (elim (split (eqb (reading_number s) 0)) [ inl t ↦ rw t (ap read (let l = read-few s (eqb-true (reading_number s) 0 t) in plot-front l.0 l.1)) | inr f ↦ rw f ])

-- The words of a written file's blocks, and its header read back. Assumes nothing.
use Rattle.std.proofs.Common.{◌≡◌, ℕ, ◌+◌, ◌-◌, ◌*◌, ◌%◌, ◌^◌, ◌<◌, ◌≤◌, Bool, true, cond, T, ltb, leb, List, [], ◌∷◌, ◌++◌, length, get_or, refl, ap, ◌∙◌, ap₂, inl, inr, arith, ltb-true, lt-ltb, le-leb}
use lib.Ieee.{Float, binary64, fits}
use Rattle.geometry.specs.declared.field.Field.{Field}
use Rattle.geometry.specs.declared.field.Field.TheVariants.{Level, Plane, Ball}
use Rattle.geometry.specs.declared.point.Point.{Point}
use Rattle.geometry.specs.Float.{zero64}
use Rattle.geometry.specs.Word.{low_word, high_word}
use Rattle.mesh.specs.Words.{zero_words}
use Rattle.mesh.proofs.Laws.Bools.{split}
use Rattle.report.specs.Format.{words_a_block, header_kind, first_record, record_room, first_field, field_places, field_size, header_size, ball_kind}
use Rattle.report.specs.Bytes.{word_in, float_in, point_from, listed}
use Rattle.report.specs.Block.{Plot, vertices_in, elements_in, header_options, fields_in, kind_at, field_from, field_at, kinds_number}
use Rattle.report.specs.Write.{total_of, check_of, closed, block_front, bounds_words, options_words, field_words, place_words, header_record, header_front, file_front, file_block, blocks_of, file_of, kept_field, PointFits, FieldFits, Sound}
use Rattle.report.proofs.Laws.Write.Words.{word_back, listed_at}
use Rattle.report.proofs.Laws.Write.Sizes.{field-length, place-length, header-length, block-length}
use Rattle.report.proofs.Laws.Write.Holds.{Holds, holds-left, holds-right, holds_row, word-at, float-at}
use Rattle.mesh.proofs.Laws.NumbersFrom.{every-numbers}

-- ---- a field

-- the three floats of a point
point-back : (s : List ℕ) (base : ℕ) (ws : List ℕ) → Holds s base ws → (a i : ℕ) (q : Point) → PointFits q → i ≡ base + a → a + 6 ≤ length ws
    → get_or ws a 0 ≡ low_word q.x → get_or ws (a + 1) 0 ≡ high_word q.x → get_or ws (a + 2) 0 ≡ low_word q.y → get_or ws (a + 2 + 1) 0 ≡ high_word q.y
    → get_or ws (a + 4) 0 ≡ low_word q.z → get_or ws (a + 4 + 1) 0 ≡ high_word q.z → point_from s i ≡ q
unfolding point_from
point-back s base ws h a i q fit e l x₀ x₁ y₀ y₁ z₀ z₁ =
    let x = float-at s base ws h a i q.x fit.x_fits e (omega arith) x₀ x₁ in
    let y = float-at s base ws h (a + 2) (i + 2) q.y fit.y-fits (omega arith) (omega arith) y₀ y₁ in
    let z = float-at s base ws h (a + 4) (i + 4) q.z fit.z-fits (omega arith) (omega arith) z₀ z₁ in
    rw (x, y, z)

-- a field from its words
field-from : (s : List ℕ) (base : ℕ) (f : Field) → FieldFits f → Holds s base (field_words f) → (i : ℕ) → i ≡ base + 1 → field_from s (word_in s base) i ≡ f
unfolding field_from field_words
field-from s base (Level c) fit h i e =
    let k : word_in s base ≡ 0 = word-at s base (field_words (Level c)) h 0 base 0 (omega arith) (omega arith) refl (omega arith) in
    rw k (ap Level (float-at s base (field_words (Level c)) h 1 i c fit e (omega arith) refl refl))
field-from s base (Plane n d) fit h i e =
    let k : word_in s base ≡ 1 = word-at s base (field_words (Plane n d)) h 0 base 1 (omega arith) (omega arith) refl (omega arith) in
    rw k (ap₂ Plane
    (point-back s base (field_words (Plane n d)) h 1 i n fit.0 e (omega arith) refl refl refl refl refl refl)
    (float-at s base (field_words (Plane n d)) h 7 (i + 6) d fit.1 (omega arith) (omega arith) refl refl))
field-from s base (Ball c r) fit h i e =
    let k : word_in s base ≡ 2 = word-at s base (field_words (Ball c r)) h 0 base 2 (omega arith) (omega arith) refl (omega arith) in
    rw k (ap₂ Ball
    (point-back s base (field_words (Ball c r)) h 1 i c fit.0 e (omega arith) refl refl refl refl refl refl)
    (float-at s base (field_words (Ball c r)) h 7 (i + 6) r fit.1 (omega arith) (omega arith) refl refl))

-- a field's kind is 0, 1 or 2
kind-few : (f : Field) → leb (get_or (field_words f) 0 0 % 2 ^ 32) 2 ≡ true
unfolding field_words
kind-few (Level c) = refl
kind-few (Plane n d) = refl
kind-few (Ball c r) = refl

-- ---- the blocks' words

module _ (p : Plot) where
  abbrev many : ℕ
  many = blocks_of p.vertices p.elements

  -- the block k
  pub block-holds : (k : ℕ) → k < blocks_of p.vertices p.elements → Holds (file_of p) (words_a_block * k) (file_block p k)
  unfolding file_of
  block-holds k l m q e g =
      let all = listed (file_block p) many in
      let at : q ≡ k * words_a_block + m = omega arith in
      let size = block-length p k in
      word_back all q ∙ ap (λ (w : ℕ). w % 2 ^ 32) (ap (λ (i : ℕ). get_or all i 0) at ∙ listed_at (file_block p) words_a_block 0 (block-length p) many k m l (omega arith))

  -- its words 0 to 126
  pub front-holds : (k : ℕ) → k < blocks_of p.vertices p.elements → Holds (file_of p) (words_a_block * k) (file_front p k)
  unfolding closed
  front-holds k l = holds-left (file_of p) (words_a_block * k) (file_front p k) (check_of (total_of (file_front p k)) ∷ []) (block-holds k l)

  -- its records
  pub records-hold : (k kind number count : ℕ) (records : List ℕ) → k < blocks_of p.vertices p.elements → file_front p k ≡ block_front kind number count records
      → Holds (file_of p) (words_a_block * k + first_record) records
  unfolding block_front
  records-hold k kind number count records l e =
      let rest = records ++ zero_words (record_room - length records) in
      holds-left (file_of p) (words_a_block * k + first_record) records (zero_words (record_room - length records))
      (holds-right (file_of p) (words_a_block * k) (words_a_block * k + first_record) (kind ∷ number ∷ count ∷ []) rest refl (rw e at (front-holds k l)))

-- ---- the header

module _ (p : Plot) (ok : Sound p) where
  abbrev record-words : List ℕ
  record-words = header_record p.options p.count p.fields p.vertices p.elements

  header-holds : Holds (file_of p) first_record record-words
  unfolding file_front header_front
  header-holds = records-hold p 0 header_kind 0 1 record-words (omega arith) refl

  long : length record-words ≡ header_size
  long = header-length p.options p.count p.fields p.vertices p.elements

  -- the word at a place of the record
  header-word : (a w : ℕ) → a < header_size → get_or record-words a 0 ≡ w → w < 2 ^ 32 → word_in (file_of p) (first_record + a) ≡ w
  header-word a w l e g = let n = long in word-at (file_of p) first_record record-words header-holds a (first_record + a) w refl (omega arith) e g

  pub vertices-back : vertices_in (file_of p) ≡ p.vertices
  unfolding header_record
  vertices-back = let h = ok.vertices-few in header-word 0 p.vertices (omega arith) refl (omega arith)

  pub elements-back : elements_in (file_of p) ≡ p.elements
  unfolding header_record
  elements-back = let h = ok.elements-few in header-word 1 p.elements (omega arith) refl (omega arith)

  pub count-back : fields_in (file_of p) ≡ p.count
  unfolding header_record options_words bounds_words
  count-back = let h = ok.count-few in header-word 19 p.count (omega arith) refl (omega arith)

  header-float : (a : ℕ) (x : Float) → T (fits binary64 x) → a < 91 → get_or record-words a 0 ≡ low_word x → get_or record-words (a + 1) 0 ≡ high_word x → float_in (file_of p) (first_record + a) ≡ x
  header-float a x fit l e f = let n = long in float-at (file_of p) first_record record-words header-holds a (first_record + a) x fit refl (omega arith) e f

  pub options-back : header_options (file_of p) ≡ p.options
  unfolding header_options header_record options_words bounds_words
  options-back =
      rw (
        header-float 2 p.options.bounds.lo.x ok.lo-fits.x_fits (omega arith) refl refl,
        header-float 4 p.options.bounds.hi.x ok.hi-fits.x_fits (omega arith) refl refl,
        header-float 6 p.options.bounds.lo.y ok.lo-fits.y-fits (omega arith) refl refl,
        header-float 8 p.options.bounds.hi.y ok.hi-fits.y-fits (omega arith) refl refl,
        header-float 10 p.options.bounds.lo.z ok.lo-fits.z-fits (omega arith) refl refl,
        header-float 12 p.options.bounds.hi.z ok.hi-fits.z-fits (omega arith) refl refl,
        header-word 14 p.options.cells.x (omega arith) refl ok.cells-small.0,
        header-word 15 p.options.cells.y (omega arith) refl ok.cells-small.1,
        header-word 16 p.options.cells.z (omega arith) refl ok.cells-small.2,
        header-word 17 p.options.periodic (omega arith) refl ok.periodic-small,
        header-word 18 p.options.passes (omega arith) refl ok.passes-small,
      )

  -- the place j of a field
  pub place-holds : (j : ℕ) → j < field_places → Holds (file_of p) (first_field + field_size * j) (place_words p.count p.fields j)
  unfolding header_record options_words bounds_words
  place-holds j l =
      let places = listed (place_words p.count p.fields) 8 in
      let start = (p.vertices ∷ p.elements ∷ []) ++ (options_words p.options ++ (p.count ∷ [])) in
      holds_row (file_of p) first_field (first_field + field_size * j) (place_words p.count p.fields) field_size field_places j (place-length p.count p.fields) l (omega arith)
      (holds-right (file_of p) first_record first_field start places refl header-holds)

  -- a place that is used
  pub used-holds : (j : ℕ) → j < field_places → ltb j p.count ≡ true → Holds (file_of p) (first_field + field_size * j) (field_words (get_or p.fields j (Level zero64)))
  unfolding place_words
  used-holds j l t = rw t at (place-holds j l)

  pub field_back : (j : ℕ) → j < field_places → field_at (file_of p) j ≡ kept_field p.count p.fields j
  unfolding field_at kept_field
  field_back j l = rw count-back (elim (split (ltb j p.count)) [
    | inl t ↦ rw t (field-from (file_of p) (first_field + field_size * j) (get_or p.fields j (Level zero64)) (ok.fields_fit j (ltb-true j p.count t)) (used-holds j l t) (first_field + 1 + field_size * j) (omega arith))
    | inr f ↦ rw f
  ])

  pub kinds-back : kinds_number (file_of p) ≡ 0
  unfolding kinds_number
  kinds-back =
      let few = ok.count-few in
      rw (count-back, le-leb p.count 8 few) (ap (λ (b : Bool). cond b 0 11) (every-numbers (λ j. leb (kind_at (file_of p) j) 2) 0 p.count (λ j a l. kind j (omega arith))))
    where
      kind : (j : ℕ) → j < p.count → leb (kind_at (file_of p) j) 2 ≡ true
      kind j l =
          let f = get_or p.fields j (Level zero64) in
          let few = ok.count-few in
          let size = field-length f in
          ap (λ (w : ℕ). leb w ball_kind) (used-holds j (omega arith) (lt-ltb j p.count l) 0 (first_field + field_size * j) (omega arith) (omega arith)) ∙ kind-few f

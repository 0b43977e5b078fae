-- The header's record in a file that is read, no float of it a NaN: the words that the writer makes of what is read. Assumes nothing.
use Rattle.std.proofs.Common.{◌≡◌, ℕ, zero, suc, ◌+◌, ◌*◌, ◌^◌, ◌<◌, ◌≤◌, true, false, ltb, List, [], ◌∷◌, ◌++◌, refl, ap, ◌∙◌, subst, inl, inr, arith, ltb-true}
use lib.Ieee.{is_nan}
use Rattle.mesh.specs.Words.{zero_words}
use Rattle.mesh.proofs.Laws.Bools.{split}
use Rattle.report.specs.Format.{first_record, vertices_place, bounds_place, cells_place, first_field, field_places, field_size, ball_kind}
use Rattle.report.specs.Bytes.{byte_at, word_in, float_in, point_from, listed}
use Rattle.report.specs.Block.{zeros_from, used_in, place_zero, vertices_in, elements_in, header_options, fields_in, kind_at, field_from, field_at, header_fields, reading_number, plot_in}
use Rattle.report.specs.Write.{float_words, point_words, bounds_words, options_words, field_words, place_words, header_record, PointIsNumber, FieldIsNumber, NoNan}
use Rattle.report.proofs.Laws.Spare.{spare-place}
use Rattle.report.proofs.Laws.Write.Sizes.{place-length}
use Rattle.report.proofs.Laws.Write.Holds.{Holds, held_move, held-append, held_rows, held-zeros, held_word, held-words, held-float, held-point}
use Rattle.report.proofs.Laws.Passed.{header-passed, kind-known}
use Rattle.report.proofs.Laws.Write.Again.{field_of, word_small}

-- ---- a field

module _ (s : List ℕ) (small : (i : ℕ) → word_in s i < 2 ^ 32) where
  -- a kind, a point and a float
  four-held : (base kind i : ℕ) → word_in s base ≡ kind → i ≡ base + 1 → PointIsNumber (point_from s i) → is_nan (float_in s (i + 6)) ≡ false
      → Holds s base ((kind ∷ []) ++ (point_words (point_from s i) ++ float_words (float_in s (i + 6))))
  unfolding point_from
  four-held base kind i is e point float =
      held-append s base i (kind ∷ []) (point_words (point_from s i) ++ float_words (float_in s (i + 6))) e (held_word s small base kind is)
      (held-append s i (i + 6) (point_words (point_from s i)) (float_words (float_in s (i + 6))) refl
      (held-point s small i (point_from s i) refl refl refl point)
      (held-float s small (i + 6) (float_in s (i + 6)) refl float))

  -- a field, where a level has zeros behind it
  field-held : (base kind i : ℕ) → word_in s base ≡ kind → kind ≤ ball_kind → i ≡ base + 1 → FieldIsNumber (field_from s kind i)
      → (kind ≡ 0 → zeros_from s (i + 2) 6 ≡ true) → Holds s base (field_words (field_from s kind i))
  unfolding field_from field_words
  field-held base zero i is few e number zeros =
      held-append s base i (0 ∷ []) (float_words (float_in s i) ++ zero_words 6) e (held_word s small base 0 is)
      (held-append s i (i + 2) (float_words (float_in s i)) (zero_words 6) refl (held-float s small i (float_in s i) refl number)
      (held-zeros s (i + 2) 6 (zeros refl)))
  field-held base (suc zero) i is few e number zeros = four-held base 1 i is e number.0 number.1
  field-held base (suc (suc zero)) i is few e number zeros = four-held base 2 i is e number.0 number.1
  field-held base (suc (suc (suc kind))) i is few e number zeros = absurd (omega arith)

-- ---- the record

module _ (s : List ℕ) (byte : (i : ℕ) → byte_at s i < 256) (number : reading_number s ≡ 0) (ok : NoNan (plot_in s)) where
  -- every word is below 2^32
  small : (i : ℕ) → word_in s i < 2 ^ 32
  small = word_small s byte

  module _ (j : ℕ) (l : j < field_places) where
    abbrev place : ℕ
    place = first_field + field_size * j

    -- its spare words
    zeros : place_zero s j ≡ true
    zeros = spare-place s j (header-passed s number).spare l

    -- an unused place
    unused-held : ltb j (fields_in s) ≡ false → Holds s place (zero_words field_size)
    unfolding place_zero used_in
    unused-held f = held_move s (place + 0) place (zero_words field_size) (omega arith) (held-zeros s (place + 0) field_size (rw f at zeros))

    module _ (t : ltb j (fields_in s) ≡ true) where
      -- those behind a level
      level-zeros : kind_at s j ≡ 0 → zeros_from s (place + 3) 6 ≡ true
      unfolding place_zero used_in
      level-zeros e = rw (t, e) at zeros

      -- the field's floats
      field-number : FieldIsNumber (field_at s j)
      unfolding plot_in
      field-number = subst FieldIsNumber (field_of s j l) (ok.fields-number j (ltb-true j (fields_in s) t))

      -- a place in use
      used-held : Holds s place (field_words (field_at s j))
      unfolding field_at
      used-held =
          let i = first_field + 1 + field_size * j in
          let at : i + 2 ≡ place + 3 = omega arith in
          rw t (field-held s small place (kind_at s j) i refl (kind-known s number j (ltb-true j (fields_in s) t)) (omega arith) (rw t at field-number)
          (λ e. ap (λ (a : ℕ). zeros_from s a 6) at ∙ level-zeros e))

    -- the place j of a field
    place-held : Holds s (first_field + field_size * j) (place_words (fields_in s) (header_fields s) j)
    unfolding place_words
    place-held = elim (split (ltb j (fields_in s))) [ inl t ↦ rw (t, field_of s j l) (used-held t) | inr f ↦ rw f (unused-held f) ]

  -- the bounds are no NaN
  bound-number : (j : ℕ) → j < 6 → is_nan (float_in s (bounds_place + j * 2)) ≡ false
  unfolding plot_in header_options
  bound-number zero l = ok.lo-number.x-number
  bound-number (suc zero) l = ok.hi-number.x-number
  bound-number (suc (suc zero)) l = ok.lo-number.y-number
  bound-number (suc (suc (suc zero))) l = ok.hi-number.y-number
  bound-number (suc (suc (suc (suc zero)))) l = ok.lo-number.z-number
  bound-number (suc (suc (suc (suc (suc zero))))) l = ok.hi-number.z-number
  bound-number (suc (suc (suc (suc (suc (suc j)))))) l = absurd (omega arith)

  -- the bounds
  bounds-held : Holds s bounds_place (bounds_words (header_options s).bounds)
  unfolding bounds_words header_options listed
  bounds-held =
      held_rows s bounds_place (λ (j : ℕ). float_words (float_in s (bounds_place + j * 2))) 2 (λ j. refl) 6
      (λ j l. held-float s small (bounds_place + j * 2) (float_in s (bounds_place + j * 2)) refl (bound-number j l))

  -- the record
  pub header-held : Holds s first_record (header_record (header_options s) (fields_in s) (header_fields s) (vertices_in s) (elements_in s))
  unfolding header_record options_words bounds_words header_options listed
  header-held =
      let bounds = bounds_words (header_options s).bounds in
      let counts = word_in s 17 ∷ word_in s 18 ∷ word_in s 19 ∷ word_in s 20 ∷ word_in s 21 ∷ word_in s 22 ∷ [] in
      let row = place_words (fields_in s) (header_fields s) in
      let places = listed row field_places in
      held-append s vertices_place bounds_place (vertices_in s ∷ elements_in s ∷ []) (bounds ++ (counts ++ places)) refl (held-words s small vertices_place 2)
      (held-append s bounds_place cells_place bounds (counts ++ places) refl bounds-held
      (held-append s cells_place first_field counts places refl (held-words s small cells_place 6)
      (held_rows s first_field row field_size (place-length (fields_in s) (header_fields s)) field_places
      (λ j l. held_move s (first_field + field_size * j) (first_field + j * field_size) (row j) (omega arith) (place-held j l)))))

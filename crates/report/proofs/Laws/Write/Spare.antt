-- A written file has no leftovers: its spare words are written as zeros, behind the records of a block, in the unused places of fields and
-- behind a level. Assumes nothing.
use Rattle.std.proofs.Common.{◌≡◌, ℕ, ◌+◌, ◌-◌, ◌*◌, ◌%◌, ◌^◌, ◌<◌, true, false, eqb, ltb, List, [], ◌∷◌, length, get_or, refl, ap, ◌∙◌, subst, inl, inr, arith}
use lib.ListN.{length-replicate, get_or-replicate}
use Rattle.geometry.specs.declared.field.Field.{Field}
use Rattle.geometry.specs.declared.field.Field.TheVariants.{Level, Plane, Ball}
use Rattle.geometry.specs.Float.{zero64}
use Rattle.geometry.specs.Word.{low_word, high_word}
use Rattle.mesh.specs.Words.{numbers, zero_words}
use Rattle.mesh.proofs.Laws.Bools.{split, and_intro}
use Rattle.mesh.proofs.Laws.NumbersFrom.{every-numbers}
use Rattle.report.specs.Format.{words_a_block, header_kind, first_record, record_room, record_size, first_field, field_places, field_size, level_size, level_kind, plane_kind, ball_kind, header_size}
use Rattle.report.specs.Bytes.{word_in}
use Rattle.report.specs.Block.{Plot, zeros_from, rest_zero, words_used, used_in, place_zero, spare_zero}
use Rattle.report.specs.Write.{block_front, field_words, place_words, header_record, header_front, file_front, blocks_of, file_of, Sound}
use Rattle.report.proofs.Laws.Spare.{zeros-all}
use Rattle.report.proofs.Laws.Write.Sizes.{header-length}
use Rattle.report.proofs.Laws.Write.Holds.{Holds, holds-right, word-at}
use Rattle.report.proofs.Laws.Write.Header.{front-holds, place-holds, used-holds, count-back}

-- words that are written as zeros
zeros-held : (s : List ℕ) (base i n : ℕ) → i ≡ base → Holds s base (zero_words n) → zeros_from s i n ≡ true
zeros-held s base i n e h =
    let size = length-replicate {A = ℕ} n 0 in
    zeros-all s i n (λ j l u. h (j - i) j (omega arith) (omega arith) ∙ ap (λ (w : ℕ). w % 2 ^ 32) (get_or-replicate n (j - i) 0 0 (omega arith)))

-- the words of a field's place behind those that its kind uses
field-rest : (s : List ℕ) (i : ℕ) (f : Field) → Holds s i (field_words f)
    → zeros_from s (i + words_used (word_in s i)) (field_size - words_used (word_in s i)) ≡ true
unfolding field_words zeros_from numbers
field-rest s i (Level c) h =
    let k : word_in s i ≡ level_kind = word-at s i (field_words (Level c)) h 0 i level_kind (omega arith) (omega arith) refl (omega arith) in
    let n = i + level_size in
    rw k (zeros-held s n n 6 refl (holds-right s i n (level_kind ∷ low_word c ∷ high_word c ∷ []) (zero_words 6) refl h))
field-rest s i (Plane n d) h =
    let k : word_in s i ≡ plane_kind = word-at s i (field_words (Plane n d)) h 0 i plane_kind (omega arith) (omega arith) refl (omega arith) in
    rw k
field-rest s i (Ball c r) h =
    let k : word_in s i ≡ ball_kind = word-at s i (field_words (Ball c r)) h 0 i ball_kind (omega arith) (omega arith) refl (omega arith) in
    rw k

module _ (p : Plot) where
  -- ---- behind the records

  -- the words behind as many as the records have
  rest-held : (k kind count used : ℕ) (records : List ℕ) → k < blocks_of p.vertices p.elements → file_front p k ≡ block_front kind k count records
      → length records ≡ used → zeros_from (file_of p) (words_a_block * k + first_record + used) (record_room - used) ≡ true
  unfolding block_front
  rest-held k kind count used records l e size =
      let i = words_a_block * k + first_record + used in
      let h : Holds (file_of p) i (zero_words (record_room - length records)) =
      holds-right (file_of p) (words_a_block * k) i (kind ∷ k ∷ count ∷ records) (zero_words (record_room - length records)) (omega arith)
      (rw e at (front-holds p k l)) in
      zeros-held (file_of p) i i (record_room - used) refl (subst (λ (n : ℕ). Holds (file_of p) i (zero_words (record_room - n))) size h)

  -- a block of vertices or elements has no leftovers
  pub block-spare : (k kind count : ℕ) (records : List ℕ) → k < blocks_of p.vertices p.elements → file_front p k ≡ block_front kind k count records
      → length records ≡ record_size kind * count → eqb kind header_kind ≡ false → spare_zero (file_of p) k kind count ≡ true
  unfolding spare_zero rest_zero
  block-spare k kind count records l e size other =
      let h = rest-held k kind count (record_size kind * count) records l e size in
      and_intro _ _ h (rw other)

  -- ---- the places of fields

  module _ (ok : Sound p) where
    -- an unused place
    unused-holds : (j : ℕ) → j < field_places → ltb j p.count ≡ false → Holds (file_of p) (first_field + field_size * j) (zero_words field_size)
    unfolding place_words
    unused-holds j l f = rw f at (place-holds p ok j l)

    -- each place
    place-spare : (j : ℕ) → j < field_places → place_zero (file_of p) j ≡ true
    unfolding place_zero used_in
    place-spare j l =
        let i = first_field + field_size * j in
        rw (count-back p ok) (elim (split (ltb j p.count)) [
          | inl t ↦ rw t (field-rest (file_of p) i (get_or p.fields j (Level zero64)) (used-holds p ok j l t))
          | inr f ↦ rw f (zeros-held (file_of p) i (i + 0) field_size (omega arith) (unused-holds j l f))
        ])

    -- the header has no leftovers
    pub header-spare : spare_zero (file_of p) 0 header_kind 1 ≡ true
    unfolding spare_zero rest_zero file_front header_front
    header-spare =
        let records = header_record p.options p.count p.fields p.vertices p.elements in
        let size = header-length p.options p.count p.fields p.vertices p.elements in
        and_intro _ _ (rest-held 0 header_kind 1 header_size records (omega arith) refl size)
        (every-numbers (place_zero (file_of p)) 0 field_places (λ j a b. place-spare j (omega arith)))

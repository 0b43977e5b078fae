-- What is read is exact and sound, so that (by `same_back`) its file is read as it, a NaN in it or not; and no two plots have one file.
-- Assumes nothing.
use Rattle.std.proofs.Common.{◌≡◌, ℕ, zero, suc, ◌+◌, ◌-◌, ◌*◌, ◌^◌, ◌<◌, ◌≤◌, T, eqb, ltb, List, [], ◌∷◌, ◌++◌, length, get_or, sym, refl, ap, ◌∙◌, subst, inl, inr, arith, get_or-append-add, le-ltb}
use lib.Ieee.{Float, binary64, fits}
use lib.Ieee.Bits.{of_bits-fits}
use lib.ListN.{get_or-append}
use Rattle.geometry.specs.declared.field.Field.TheVariants.{Level}
use Rattle.geometry.specs.Float.{zero64}
use Rattle.mesh.proofs.Laws.Bools.{split}
use Rattle.mesh.proofs.Laws.Parts.{side}
use Rattle.report.specs.Format.{bounds_place, cells_place, periodic_place, passes_place, first_field, field_places, field_size}
use Rattle.report.specs.Bytes.{byte_at, word_in, float_in, point_from, listed}
use Rattle.report.specs.Block.{Plot, vertices_in, elements_in, vertex_blocks, header_options, fields_in, field_from, field_at, header_fields, vertex_place, element_place, parameter_row, point_row, mask_row, element_row, reading_number, plot_in}
use Rattle.report.specs.Write.{file_of, PointFits, FieldFits, Sound, Exact}
use Rattle.report.proofs.Laws.Limits.{read-few}
use Rattle.report.proofs.Laws.Listed.{length-listed}
use Rattle.report.proofs.Laws.Write.Words.{listed_at}
use Rattle.report.proofs.Laws.Passed.{read-fields}
use Rattle.report.proofs.Laws.Write.Back.{same_back}

-- what is so of each element of each row and of the default is so of each element of the rows
module _ {A : Type 0} (P : A → Type 0) (d : A) (none : P d) where
  listed-all : (row : ℕ → List A) → ((k i : ℕ) → P (get_or (row k) i d)) → (n i : ℕ) → P (get_or (listed row n) i d)
  unfolding listed
  listed-all row h zero i = none
  listed-all row h (suc n) i = elim (side i (length (listed row n))) [
    | inl l ↦ subst P (sym (get_or-append (listed row n) (row n) d i l)) (listed-all row h n i)
    | inr l ↦ (let e : i ≡ length (listed row n) + (i - length (listed row n)) = omega arith in
        subst P (sym (ap (λ (k : ℕ). get_or (listed row n ++ row n) k d) e ∙ get_or-append-add (listed row n) (row n) (i - length (listed row n)) d)) (h n (i - length (listed row n))))
  ]

abbrev Fit : Float → Type 0
Fit x = T (fits binary64 x)

zero-fits : Fit zero64
unfolding fits
zero-fits = tt

abbrev Small : ℕ → Type 0
Small w = w < 2 ^ 32

module _ (s : List ℕ) where
  -- every float that is read is an f64
  float_fits : (i : ℕ) → Fit (float_in s i)
  unfolding float_in
  float_fits i = of_bits-fits binary64 (word_in s i + 2 ^ 32 * word_in s (i + 1))

  point-fits : (i : ℕ) → PointFits (point_from s i)
  unfolding point_from
  point-fits i = record { x_fits = float_fits i; y-fits = float_fits (i + 2); z-fits = float_fits (i + 4) }

  from-fits : (kind i : ℕ) → FieldFits (field_from s kind i)
  unfolding field_from
  from-fits kind i = elim (split (eqb kind 0)) [
    | inl t ↦ rw t (float_fits i)
    | inr f ↦ rw f (elim (split (eqb kind 1)) [ inl t ↦ rw t (point-fits i, float_fits (i + 6)) | inr g ↦ rw g (point-fits i, float_fits (i + 6)) ])
  ]

  field_fits : (j : ℕ) → FieldFits (field_at s j)
  unfolding field_at
  field_fits j = elim (split (ltb j (fields_in s))) [ inl t ↦ rw t (from-fits (word_in s (first_field + field_size * j)) (first_field + 1 + field_size * j)) | inr f ↦ rw f zero-fits ]

  -- the field j of the eight
  pub field_of : (j : ℕ) → j < field_places → get_or (header_fields s) j (Level zero64) ≡ field_at s j
  unfolding listed
  field_of j l =
      let e : j ≡ j * 1 + 0 = omega arith in
      ap (λ (k : ℕ). get_or (header_fields s) k (Level zero64)) e ∙ listed_at (λ (k : ℕ). field_at s k ∷ []) 1 (Level zero64) (λ k. refl) 8 j 0 l (omega arith)

  -- a place that is not used
  unused-level : (j : ℕ) → fields_in s ≤ j → field_at s j ≡ Level zero64
  unfolding field_at
  unused-level j h = rw (le-ltb j (fields_in s) h)

  -- the rows that are read
  three-fit : (a b c : ℕ) (i : ℕ) → Fit (get_or (float_in s a ∷ float_in s b ∷ float_in s c ∷ []) i zero64)
  three-fit a b c zero = float_fits a
  three-fit a b c (suc zero) = float_fits b
  three-fit a b c (suc (suc zero)) = float_fits c
  three-fit a b c (suc (suc (suc i))) = zero-fits

  -- a word of four bytes
  pub word_small : ((i : ℕ) → byte_at s i < 256) → (i : ℕ) → word_in s i < 2 ^ 32
  unfolding word_in
  word_small byte i =
      let a = byte (4 * i) in
      let b = byte (4 * i + 1) in
      let c = byte (4 * i + 2) in
      let d = byte (4 * i + 3) in
      omega arith

  module _ (byte : (i : ℕ) → byte_at s i < 256) (number : reading_number s ≡ 0) where
    -- every word is below 2^32
    small : (i : ℕ) → Small (word_in s i)
    small = word_small byte

    mask-small : (v i : ℕ) → Small (get_or (mask_row s v) i 0)
    unfolding mask_row
    mask-small v zero = small (vertex_place v + 12)
    mask-small v (suc i) = omega arith

    element-small : (b e i : ℕ) → Small (get_or (element_row s b e) i 0)
    unfolding element_row
    element-small b e zero = small (element_place b e)
    element-small b e (suc zero) = small (element_place b e + 1)
    element-small b e (suc (suc zero)) = small (element_place b e + 2)
    element-small b e (suc (suc (suc zero))) = small (element_place b e + 3)
    element-small b e (suc (suc (suc (suc i)))) = omega arith

    -- what is read is exact
    pub read-exact : Exact (plot_in s)
    unfolding plot_in parameter_row point_row mask_row element_row
    read-exact = record {
      parameters-all = let l = length-listed (parameter_row s) 3 (λ j. refl) (vertices_in s) in omega arith;
      points-all = let l = length-listed (point_row s) 3 (λ j. refl) (vertices_in s) in omega arith;
      masks-all = let l = length-listed (mask_row s) 1 (λ j. refl) (vertices_in s) in omega arith;
      corners-all = let l = length-listed (element_row s (1 + vertex_blocks (vertices_in s))) 4 (λ j. refl) (elements_in s) in omega arith;
      fields-all = refl;
      unused = λ j h l. field_of j l ∙ unused-level j h;
    }

    -- and sound
    pub read-sound : Sound (plot_in s)
    unfolding plot_in header_options parameter_row point_row
    read-sound =
        let few = read-few s number in
        record {
          vertices-few = few.0;
          elements-few = few.1;
          count-few = read-fields s number;
          parameters-in = let l = read-exact.parameters-all in omega arith;
          points-in = let l = read-exact.points-all in omega arith;
          masks-in = let l = read-exact.masks-all in omega arith;
          corners-in = let l = read-exact.corners-all in omega arith;
          lo-fits = record { x_fits = float_fits bounds_place; y-fits = float_fits (bounds_place + 4); z-fits = float_fits (bounds_place + 8) };
          hi-fits = record { x_fits = float_fits (bounds_place + 2); y-fits = float_fits (bounds_place + 6); z-fits = float_fits (bounds_place + 10) };
          cells-small = (small cells_place, small (cells_place + 1), small (cells_place + 2));
          periodic-small = small periodic_place;
          passes-small = small passes_place;
          fields_fit = λ j l. subst FieldFits (sym (field_of j (omega (arith, read-fields s number)))) (field_fits j);
          parameters-fit = listed-all Fit zero64 zero-fits (parameter_row s) (λ v. three-fit (vertex_place v) (vertex_place v + 2) (vertex_place v + 4)) (vertices_in s);
          points-fit = listed-all Fit zero64 zero-fits (point_row s) (λ v. three-fit (vertex_place v + 6) (vertex_place v + 8) (vertex_place v + 10)) (vertices_in s);
          masks-small = listed-all Small 0 (omega arith) (mask_row s) mask-small (vertices_in s);
          corners-small = listed-all Small 0 (omega arith) (element_row s (1 + vertex_blocks (vertices_in s))) (element-small (1 + vertex_blocks (vertices_in s))) (elements_in s);
        }

-- exact plots with one file are one plot
pub one-plot : (p q : Plot) → Sound p → Exact p → Sound q → Exact q → file_of p ≡ file_of q → p ≡ q
one-plot p q sound-p exact-p sound-q exact-q e =
    let a = same_back p exact-p sound-p in
    let b = same_back q exact-q sound-q in
    cc

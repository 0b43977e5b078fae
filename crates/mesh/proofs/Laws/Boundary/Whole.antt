-- `boundary_in` and `boundary`, step by step: what each call leaves of the area, and that the whole is the definition. Assumes nothing.
use Rattle.std.proofs.Common.{◌≡◌, ℕ, zero, suc, ◌+◌, ◌-◌, ◌*◌, ◌<◌, ◌≤◌, Bool, true, false, cond, eqb, ltb, leb, List, [], ◌∷◌, ◌++◌, map, length, get_or, take, drop, replicate, sym, refl, ap, ◌∙◌, ap₂, inl, inr, append_assoc, append-nil, arith, length-append, length-drop, length-take-le, take_all, take-take, take_at, take-add, drop_at, lt-ltb, eq-eqb, ne_eqb, eqb-true, le-leb, leb-true}
use lib.ListN.{length-replicate, replicate-append-replicate}
use borrow.Rule.Slice.PartMut.{mid_of, put_mid}
use Rattle.mesh.specs.declared.element.Tet.{Tet}
use Rattle.mesh.specs.declared.element.Triple.{Triple}
use Rattle.mesh.specs.Surface.{Outcome}
use Rattle.mesh.specs.Surface.{Surface, Refused}
use Rattle.mesh.specs.Words.{zero_words, flat}
use Rattle.mesh.specs.Sort.{sort}
use Rattle.mesh.specs.inside.Rows.{rows, le_row, fit_rows, sorted_area}
use Rattle.mesh.specs.Element.{tets, corners_of}
use Rattle.mesh.specs.Boundary.{le_triple, boundary_number, boundary_of}
use Rattle.mesh.specs.Surface.{answer, triples_of, answer_of, surface_words}
use Rattle.mesh.specs.inside.Surface.{area_fits, Filled, area_after, boundary_in, face_rows, face_area, FaceArea, gathered, Gathered}
use Rattle.mesh.specs.inside.Faces.{FaceRoom, SortedFaces}
use Rattle.mesh.proofs.Laws.Bools.{and_intro, and_left, and_right}
use Rattle.mesh.proofs.Laws.Complex.Sets.{split}
use Rattle.mesh.proofs.Laws.Rows.{Shape, none, more, rows-flat, rows_words}
use Rattle.mesh.proofs.Laws.Areas.{area-is, length-sorted}
use Rattle.mesh.proofs.Laws.Boundary.Order.{sort-corners}
use Rattle.mesh.proofs.Laws.Boundary.Faces.{rows-kept, tets-kept}
use Rattle.mesh.proofs.Laws.Boundary.Scan.{rows-known, area-number, area-surface, area-count}
use Rattle.mesh.proofs.Laws.Boundary.Meaning.{surface-few}
use Rattle.mesh.proofs.Laws.Boundary.Gather.{length-triples}
use Rattle.mesh.proofs.Laws.Parts.{tail-mid, tail-put}
use Rattle.mesh.proofs.Laws.Intake.Reads.{length-tets}

-- ---- the answer

answer-same : (k x y : ℕ) → (k ≡ 0 → x ≡ y) → answer k x ≡ answer k y
unfolding answer
answer-same zero x y h = ap Surface (h refl)
answer-same (suc k) x y h = ap (λ (t : Bool). cond t (Surface x) (Refused (suc k))) no ∙ sym (ap (λ (t : Bool). cond t (Surface y) (Refused (suc k))) no)
  where
    no : eqb (suc k) 0 ≡ false
    no = ne_eqb (suc k) 0 (λ e. omega (arith, e))

answer-zero : (x : ℕ) → triples_of (answer 0 x) ≡ x
unfolding answer
answer-zero x = refl

answer-bad : (k x : ℕ) → triples_of (answer (suc k) x) ≡ 0
unfolding answer
answer-bad k x = ap (λ (t : Bool). triples_of (cond t (Surface x) (Refused (suc k)))) (ne_eqb (suc k) 0 (λ e. omega (arith, e)))

-- a surface: no number, and so many triples
pub taken-zero : (e n c : ℕ) → Surface c ≡ answer e n → (e ≡ 0) × (c ≡ n)
unfolding answer
taken-zero e n c h =
    elim (split (eqb e 0)) [
      | inl q ↦ (eqb-true e 0 q, let g : Surface c ≡ Surface n = h ∙ rw q refl in cc)
      | inr q ↦ absurd (let g : Surface c ≡ Refused e = h ∙ rw q refl in let z : ◌≡◌ {A = ℕ} 0 1 = cc in omega arith)
    ]

-- a refusal: its number
pub refused-is : (e n c : ℕ) → Refused c ≡ answer e n → (eqb e 0 ≡ false) × (c ≡ e)
unfolding answer
refused-is e n c h =
    elim (split (eqb e 0)) [
      | inl q ↦ absurd (let g : Refused c ≡ Surface n = h ∙ rw q refl in let z : ◌≡◌ {A = ℕ} 0 1 = cc in omega arith)
      | inr q ↦ (q, let g : Refused c ≡ Refused e = h ∙ rw q refl in cc)
    ]

words-good : (ts : List Tet) → boundary_number ts ≡ 0 → surface_words ts ≡ flat (map corners_of (boundary_of ts))
unfolding surface_words
words-good ts e = rw e

words-bad : (ts : List Tet) → eqb (boundary_number ts) 0 ≡ false → surface_words ts ≡ []
unfolding surface_words
words-bad ts e = rw e

-- a refusal has none
pub refused-words : (ts : List Tet) (k : ℕ) → answer_of ts ≡ Refused k → surface_words ts ≡ []
unfolding answer_of
refused-words ts k h = words-bad ts (refused-is (boundary_number ts) (length (boundary_of ts)) k (sym h)).0

-- three words a triple
pub words_count : (ts : List Tet) → length (surface_words ts) ≡ 3 * triples_of (answer_of ts)
unfolding answer_of flat
words_count ts = go (boundary_number ts) refl
  where
    go : (k : ℕ) → boundary_number ts ≡ k → length (surface_words ts) ≡ 3 * triples_of (answer (boundary_number ts) (length (boundary_of ts)))
    go zero e =
        ap length (words-good ts e) ∙ length-triples (boundary_of ts)
        ∙ ap (λ (i : ℕ). 3 * i) (sym (ap (λ (i : ℕ). triples_of (answer i (length (boundary_of ts)))) e ∙ answer-zero (length (boundary_of ts))))
    go (suc k) e = ap length (words-bad ts (ap (λ (i : ℕ). eqb i 0) e ∙ ne_eqb (suc k) 0 (λ z. omega (arith, z)))) ∙ ap (λ (i : ℕ). 3 * i) (sym (ap (λ (i : ℕ). triples_of (answer i (length (boundary_of ts)))) e ∙ answer-bad k (length (boundary_of ts))))

-- at most four triples an element
pub triples-few : (n : ℕ) (s : List ℕ) → triples_of (answer_of (tets n s)) ≤ 4 * n
unfolding answer_of
triples-few n s = go (boundary_number (tets n s)) refl
  where
    go : (k : ℕ) → boundary_number (tets n s) ≡ k → triples_of (answer (boundary_number (tets n s)) (length (boundary_of (tets n s)))) ≤ 4 * n
    go zero e =
        let h = ap (λ (i : ℕ). triples_of (answer i (length (boundary_of (tets n s))))) e ∙ answer-zero (length (boundary_of (tets n s))) in
        omega (arith, h, surface-few (tets n s), length-tets n s)
    go (suc k) e =
        let h = ap (λ (i : ℕ). triples_of (answer i (length (boundary_of (tets n s))))) e ∙ answer-bad k (length (boundary_of (tets n s))) in
        omega (arith, h)

-- ---- room

pub fits-few : (n m : ℕ) → area_fits n m ≡ true → n ≤ 65536
unfolding area_fits
fits-few n m h = leb-true n 65536 (and_left (leb n 65536) (leb (36 * n) m) h)

pub fits-room : (n m : ℕ) → area_fits n m ≡ true → 36 * n ≤ m
unfolding area_fits
fits-room n m h = leb-true (36 * n) m (and_right (leb n 65536) (leb (36 * n) m) h)

fit-rows : (n w m : ℕ) → 0 < w → n * w ≤ m → fit_rows n w m ≡ true
unfolding fit_rows
fit-rows n w m h k = and_intro (ltb 0 w) (leb (n * w) m) (lt-ltb 0 w h) (le-leb (n * w) m k)

shape-corners : (l : List Triple) → Shape 3 (length l) (map corners_of l)
shape-corners [] = none
shape-corners (f ∷ l) = more refl (shape-corners l)

-- ---- the area afterwards

area-good : (n : ℕ) (s : List ℕ) → eqb (boundary_number (tets n s)) 0 ≡ true
    → area_after n s ≡ take (4 * n) s ++ (surface_words (tets n s) ++ zero_words (length s - (4 * n + length (surface_words (tets n s)))))
unfolding area_after
area-good n s e = rw e

area-bad : (n : ℕ) (s : List ℕ) → eqb (boundary_number (tets n s)) 0 ≡ false → area_after n s ≡ zero_words (length s)
unfolding area_after
area-bad n s e = rw e

-- the elements stand at its front where no key is bad
pub area-front : (n : ℕ) (s : List ℕ) → 4 * n ≤ length s → eqb (boundary_number (tets n s)) 0 ≡ true → take (4 * n) (area_after n s) ≡ take (4 * n) s
area-front n s h e =
    ap (take (4 * n)) (area-good n s e)
    ∙ take_at (take (4 * n) s) (surface_words (tets n s) ++ zero_words (length s - (4 * n + length (surface_words (tets n s))))) (4 * n) (length-take-le (4 * n) s h)

-- the surface stands behind them, and zeros behind the surface, which has no words where a key is bad
pub area-behind : (n : ℕ) (s : List ℕ) → 4 * n ≤ length s
    → drop (4 * n) (area_after n s) ≡ surface_words (tets n s) ++ zero_words (length s - (4 * n + length (surface_words (tets n s))))
area-behind n s h =
    elim (split (eqb (boundary_number (tets n s)) 0)) [
      | inl q ↦ ap (drop (4 * n)) (area-good n s q) ∙ drop_at (take (4 * n) s) (surface_words (tets n s) ++ zero_words (length s - (4 * n + length (surface_words (tets n s))))) (4 * n) (length-take-le (4 * n) s h)
      | inr q ↦ ap (drop (4 * n)) (area-bad n s q) ∙ zeros-behind (4 * n) (length s) h ∙ sym (rw (words-bad (tets n s) q) refl)
    ]
  where
    zeros-behind : (i k : ℕ) → i ≤ k → drop i (zero_words k) ≡ zero_words (k - (i + 0))
    zeros-behind i k l =
        let j : k ≡ i + (k - (i + 0)) = omega arith in
        ap (λ (u : ℕ). drop i (zero_words u)) j ∙ ap (drop i) (sym (replicate-append-replicate i (k - (i + 0)) 0))
        ∙ drop_at (zero_words i) (zero_words (k - (i + 0))) i (length-replicate i 0)

-- it is as long as it was
pub area-long : (n : ℕ) (s : List ℕ) → 36 * n ≤ length s → length (area_after n s) ≡ length s
area-long n s h =
    elim (split (eqb (boundary_number (tets n s)) 0)) [
      | inl q ↦ ap length (area-good n s q) ∙ whole
      | inr q ↦ ap length (area-bad n s q) ∙ length-replicate (length s) 0
    ]
  where
    whole : length (take (4 * n) s ++ (surface_words (tets n s) ++ zero_words (length s - (4 * n + length (surface_words (tets n s)))))) ≡ length s
    whole =
        let w = surface_words (tets n s) in
        let z = zero_words (length s - (4 * n + length w)) in
        omega (arith, length-append (take (4 * n) s) (w ++ z), length-append w z, length-replicate {A = ℕ} (length s - (4 * n + length w)) 0, length-take-le (4 * n) s (omega arith), words_count (tets n s), triples-few n s)

-- ---- `boundary_in`

pub filled_is : (n : ℕ) (s : List ℕ) → area_fits n (length s) ≡ true → boundary_in n s ≡ record { answer = answer_of (tets n s); area = area_after n s }
unfolding boundary_in
filled_is n s e = rw e

pub too_small : (n : ℕ) (s z : List ℕ) → area_fits n (length s) ≡ false → z ≡ zero_words (length s) → ◌≡◌ {A = Filled} (record { answer = Refused 10; area = z }) (boundary_in n s)
unfolding boundary_in
too_small n s z e f = rw (e, f)

-- a number leaves zeros in the whole area
pub refused-zeros : (n : ℕ) (s : List ℕ) {r : Outcome} {p : List ℕ} {k : ℕ} → ◌≡◌ {A = Filled} (record { answer = r; area = p }) (boundary_in n s) → r ≡ Refused k → p ≡ zero_words (length s)
unfolding answer_of
refused-zeros n s {r} {p} {k} g h =
    elim (split (area_fits n (length s))) [
      | inl e ↦ let f = g ∙ filled_is n s e in
          ap (λ (u : Filled). u.area) f
          ∙ area-bad n s (refused-is (boundary_number (tets n s)) (length (boundary_of (tets n s))) k (sym h ∙ ap (λ (u : Filled). u.answer) f)).0
      | inr e ↦ ap (λ (u : Filled). u.area) (g ∙ sym (too_small n s (zero_words (length s)) e refl))
    ]

module _ (n : ℕ) (s₀ : List ℕ) (fits : area_fits n (length s₀) ≡ true) where
  room : 36 * n ≤ length s₀
  room = fits-room n (length s₀) fits

  head-long : length (take (4 * n) s₀) ≡ 4 * n
  head-long = length-take-le (4 * n) s₀ (omega (arith, room))

  pub faces-room : FaceRoom n s₀
  faces-room = record { few = fits-few n (length s₀) fits; room = room }

  -- the rows sorted
  module _ (s₂ : List ℕ) (t : SortedFaces n s₀ s₂) where
    long₂ : length s₂ ≡ length s₀
    long₂ = t.kept.long

    head₂ : take (4 * n) s₂ ≡ take (4 * n) s₀
    head₂ = t.kept.front

    area₂ : face_area n s₂ ≡ sort le_row (face_rows n s₂)
    area₂ = t.sorted ∙ ap (sort le_row) (rows-kept n s₀ s₂ (sym head₂))

    pub rows-stand : FaceArea n s₂
    rows-stand = record {
      few = fits-few n (length s₀) fits;
      room = omega (arith, room, long₂);
      known = ap (λ (u : List (List ℕ)). Rattle.mesh.specs.Tests.every (λ r. ltb (get_or r 3 0) (4 * n)) u) area₂ ∙ rows-known n s₂;
    }

    elements₂ : tets n s₂ ≡ tets n s₀
    elements₂ = tets-kept n s₂ s₀ head₂

    -- and gathered
    module _ (s₃ : List ℕ) (r : Outcome) (long₃ : length s₃ ≡ length s₂) (g : Gathered n s₂ s₃ r) where
      pub part-room₂ : (n ≤ 65536) × (4 * n ≤ length s₃)
      part-room₂ = (fits-few n (length s₀) fits, omega (arith, long₃, long₂, room))

      answered₂ : r ≡ answer (boundary_number (tets n s₂)) (length (gathered n s₂))
      answered₂ = g.result ∙ ap (λ (k : ℕ). answer k (length (gathered n s₂))) (area-number n s₂ area₂)

      answered : r ≡ answer_of (tets n s₀)
      unfolding answer_of
      answered =
          answered₂ ∙ answer-same (boundary_number (tets n s₂)) (length (gathered n s₂)) (length (boundary_of (tets n s₂))) (area-count n s₂ area₂)
          ∙ ap (λ (ts : List Tet). answer (boundary_number ts) (length (boundary_of ts))) elements₂

      -- a refusal, and the area cleared
      pub refused : (k : ℕ) → r ≡ Refused k → (z : List ℕ) → z ≡ zero_words (length s₃) → ◌≡◌ {A = Filled} (record { answer = Refused k; area = z }) (boundary_in n s₀)
      refused k hr z e =
          let g = refused-is (boundary_number (tets n s₂)) (length (gathered n s₂)) k (sym hr ∙ answered₂) in
          let b : eqb (boundary_number (tets n s₀)) 0 ≡ false = ap (λ (ts : List Tet). eqb (boundary_number ts) 0) (sym elements₂) ∙ g.0 in
          ap₂ (λ (u : Outcome) (v : List ℕ). record { answer = u; area = v }) (sym hr ∙ answered) (e ∙ ap zero_words (long₃ ∙ long₂) ∙ sym (area-bad n s₀ b))
          ∙ sym (filled_is n s₀ fits)

      -- a surface of c triples, which stand behind the elements
      module _ (c : ℕ) (hr : r ≡ Surface c) where
        no_number : boundary_number (tets n s₂) ≡ 0
        no_number = (taken-zero (boundary_number (tets n s₂)) (length (gathered n s₂)) c (sym hr ∙ answered₂)).0

        size : length (gathered n s₂) ≡ c
        size = sym (taken-zero (boundary_number (tets n s₂)) (length (gathered n s₂)) c (sym hr ∙ answered₂)).1

        front : take (4 * n + 3 * c) s₃ ≡ take (4 * n) s₀ ++ flat (map corners_of (gathered n s₂))
        front = ap (λ (i : ℕ). take (4 * n + 3 * i) s₃) (sym size) ∙ g.front ∙ ap (λ (u : List ℕ). u ++ flat (map corners_of (gathered n s₂))) head₂

        words : flat (map corners_of (sort le_triple (gathered n s₂))) ≡ surface_words (tets n s₀)
        words = ap (λ (l : List Triple). flat (map corners_of l)) (area-surface n s₂ area₂ no_number) ∙ sym (words-good (tets n s₂) no_number) ∙ ap surface_words elements₂

        count : c ≡ triples_of (answer_of (tets n s₀))
        count = sym (ap triples_of (sym answered ∙ hr))

        few-found : c ≤ 4 * n
        few-found = omega (arith, count, triples-few n s₀)

        long-words : length (surface_words (tets n s₀)) ≡ 3 * c
        long-words = words_count (tets n s₀) ∙ ap (λ (i : ℕ). 3 * i) (sym count)

        head₃ : take (4 * n) s₃ ≡ take (4 * n) s₀
        head₃ =
            sym (take-take (4 * n) (4 * n + 3 * c) s₃ (omega arith)) ∙ ap (take (4 * n)) front
            ∙ take_at (take (4 * n) s₀) (flat (map corners_of (gathered n s₂))) (4 * n) head-long

        gathered-words : take (c * 3) (drop (4 * n) s₃) ≡ flat (map corners_of (gathered n s₂))
        gathered-words =
            let q : c * 3 ≡ 3 * c = omega arith in
            ap (λ (i : ℕ). take i (drop (4 * n) s₃)) q
            ∙ sym (drop_at (take (4 * n) s₃) (take (3 * c) (drop (4 * n) s₃)) (4 * n) (length-take-le (4 * n) s₃ (omega (arith, long₃, long₂, room))))
            ∙ ap (drop (4 * n)) (sym (take-add (4 * n) (3 * c) s₃) ∙ front)
            ∙ drop_at (take (4 * n) s₀) (flat (map corners_of (gathered n s₂))) (4 * n) head-long

        gathered-rows : rows 3 c (drop (4 * n) s₃) ≡ map corners_of (gathered n s₂)
        gathered-rows =
            let l = gathered n s₂ in
            let w = flat (map corners_of l) in
            rows_words 3 c (drop (4 * n) s₃) w (gathered-words ∙ sym (take_all (c * 3) w (omega (arith, length-triples l, size))))
            ∙ ap (rows 3 c) (sym (append-nil w)) ∙ ap (λ (i : ℕ). rows 3 i (w ++ [])) (sym (size)) ∙ rows-flat (shape-corners l) []

        sorted-words : flat (sort le_row (rows 3 c (drop (4 * n) s₃))) ≡ surface_words (tets n s₀)
        sorted-words = ap flat (ap (sort le_row) gathered-rows ∙ sort-corners (gathered n s₂)) ∙ words

        -- and sorted again
        module _ (x₂ : List ℕ) (f₂ : x₂ ≡ sorted_area c 3 (mid_of (4 * n) (length s₃ - 4 * n) s₃)) where
          abbrev s₄ : List ℕ
          s₄ = put_mid (4 * n) (length s₃ - 4 * n) s₃ x₂

          rest : List ℕ
          rest = replicate (c * 3) 0 ++ drop (c * 3 + c * 3) (drop (4 * n) s₃)

          sorted₂ : x₂ ≡ surface_words (tets n s₀) ++ rest
          unfolding rest
          sorted₂ =
              f₂ ∙ ap (sorted_area c 3) (tail-mid (4 * n) s₃)
              ∙ area-is c 3 (drop (4 * n) s₃) (fit-rows (c + c) 3 (length (drop (4 * n) s₃)) (omega arith) (omega (arith, length-drop (4 * n) s₃, long₃, long₂, room, few-found)))
              ∙ ap (λ (u : List ℕ). u ++ rest) sorted-words

          put₄ : s₄ ≡ (take (4 * n) s₀ ++ surface_words (tets n s₀)) ++ rest
          put₄ = tail-put (4 * n) s₃ x₂ ∙ ap₂ (λ (u v : List ℕ). u ++ v) head₃ sorted₂ ∙ sym (append_assoc (take (4 * n) s₀) (surface_words (tets n s₀)) rest)

          long₄ : length s₄ ≡ length s₀
          long₄ =
              ap length (tail-put (4 * n) s₃ x₂) ∙ length-append (take (4 * n) s₃) x₂
              ∙ omega (arith, length-take-le (4 * n) s₃ (omega (arith, long₃, long₂, room)), ap length (f₂ ∙ ap (sorted_area c 3) (tail-mid (4 * n) s₃)), length-sorted c 3 (drop (4 * n) s₃), length-drop (4 * n) s₃, long₃, long₂, room)

          pub end-room : (n ≤ 65536) × (c ≤ 4 * n) × (4 * n + 3 * c ≤ length s₄)
          end-room = (fits-few n (length s₀) fits, few-found, omega (arith, few-found, long₄, room))

          front_long : length (take (4 * n) s₀ ++ surface_words (tets n s₀)) ≡ 4 * n + 3 * c
          front_long = omega (arith, length-append (take (4 * n) s₀) (surface_words (tets n s₀)), head-long, long-words)

          -- and cleared
          pub filled : (z : List ℕ) → z ≡ zero_words (length (mid_of (4 * n + 3 * c) (length s₄ - (4 * n + 3 * c)) s₄))
              → ◌≡◌ {A = Filled} (record { answer = Surface c; area = put_mid (4 * n + 3 * c) (length s₄ - (4 * n + 3 * c)) s₄ z }) (boundary_in n s₀)
          filled z e =
              let w = surface_words (tets n s₀) in
              let k : length (drop (4 * n + 3 * c) s₄) ≡ length s₀ - (4 * n + length w) = omega (arith, length-drop (4 * n + 3 * c) s₄, long₄, long-words) in
              let a : put_mid (4 * n + 3 * c) (length s₄ - (4 * n + 3 * c)) s₄ z ≡ take (4 * n) s₀ ++ (w ++ zero_words (length s₀ - (4 * n + length w))) =
              tail-put (4 * n + 3 * c) s₄ z
              ∙ ap₂ (λ (u v : List ℕ). u ++ v) (ap (take (4 * n + 3 * c)) put₄ ∙ take_at (take (4 * n) s₀ ++ w) rest (4 * n + 3 * c) front_long)
              (e ∙ ap (λ (u : List ℕ). zero_words (length u)) (tail-mid (4 * n + 3 * c) s₄) ∙ ap zero_words k)
              ∙ append_assoc (take (4 * n) s₀) w (zero_words (length s₀ - (4 * n + length w))) in
              let y : eqb (boundary_number (tets n s₀)) 0 ≡ true = eq-eqb (boundary_number (tets n s₀)) 0 (ap boundary_number (sym elements₂) ∙ no_number) in
              ap₂ (λ (u : Outcome) (v : List ℕ). record { answer = u; area = v }) (sym hr ∙ answered) (a ∙ sym (area-good n s₀ y)) ∙ sym (filled_is n s₀ fits)

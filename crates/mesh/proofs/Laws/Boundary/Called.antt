-- `boundary` with its buffers, step by step: the elements copied into the work, the surface copied out of it. Assumes nothing.
use Rattle.std.proofs.Common.{◌≡◌, ℕ, ◌+◌, ◌-◌, ◌*◌, ◌≤◌, true, false, ◌&&◌, leb, List, ◌++◌, length, take, drop, sym, refl, ap, ◌∙◌, ap₂, arith, length-append, length-take-le, take_at, le-leb, leb-true}
use lib.Seq.{paste, length-paste}
use borrow.Rule.Slice.PartMut.{mid_of}
use Rattle.mesh.specs.declared.element.Tet.{Tet}
use Rattle.mesh.specs.Surface.{Outcome}
use Rattle.mesh.specs.Surface.{Surface, Refused}
use Rattle.mesh.specs.Words.{zero_words}
use Rattle.mesh.specs.Element.{tets}
use Rattle.mesh.specs.Surface.{triples_of, answer_of, surface_words, call_fits, Call, boundary_call}
use Rattle.mesh.specs.inside.Surface.{area_fits, Filled, area_after, boundary_in}
use Rattle.mesh.proofs.Laws.Bools.{and_intro, and_left, and_right}
use Rattle.mesh.proofs.Laws.Boundary.Faces.{tets-kept}
use Rattle.mesh.proofs.Laws.Boundary.Whole.{words_count, triples-few, refused-words, filled_is, area-behind, refused-zeros}
use Rattle.mesh.proofs.Laws.Parts.{tail-mid}

pub too_short : (n : ℕ) (els sf wk z : List ℕ) → call_fits n (length els) (length sf) (length wk) ≡ false → z ≡ zero_words (length wk)
    → ◌≡◌ {A = Call} (record { answer = Refused 10; surface = sf; work = z }) (boundary_call n els sf wk)
unfolding boundary_call
too_short n els sf wk z e f = rw (e, f)

-- what the room gives
pub record Room (n e f w : ℕ) : Type 0 where
  pub few : n ≤ 16384
  pub elements : 4 * n ≤ e
  pub surface : 12 * n ≤ f
  pub work : 36 * n ≤ w

pub call-room : (n e f w : ℕ) → call_fits n e f w ≡ true → Room n e f w
unfolding call_fits
call-room n e f w h =
    let p = and_right (leb n 16384) (leb (4 * n) e && (leb (12 * n) f && leb (36 * n) w)) h in
    let q = and_right (leb (4 * n) e) (leb (12 * n) f && leb (36 * n) w) p in
    record {
      few = leb-true n 16384 (and_left (leb n 16384) (leb (4 * n) e && (leb (12 * n) f && leb (36 * n) w)) h);
      elements = leb-true (4 * n) e (and_left (leb (4 * n) e) (leb (12 * n) f && leb (36 * n) w) p);
      surface = leb-true (12 * n) f (and_left (leb (12 * n) f) (leb (36 * n) w) q);
      work = leb-true (36 * n) w (and_right (leb (12 * n) f) (leb (36 * n) w) q);
    }

-- an area of 36 words an element fits
pub area-fits : (n m : ℕ) → n ≤ 16384 → 36 * n ≤ m → area_fits n m ≡ true
unfolding area_fits
area-fits n m h k = and_intro (leb n 65536) (leb (36 * n) m) (le-leb n 65536 (omega arith)) (le-leb (36 * n) m k)

module _ (n : ℕ) (els sf wk : List ℕ) (fits : call_fits n (length els) (length sf) (length wk) ≡ true) where
  room : Room n (length els) (length sf) (length wk)
  room = call-room n (length els) (length sf) (length wk) fits

  module _ (w₁ : List ℕ) (e₁ : w₁ ≡ paste wk 0 els (4 * n)) where
    long₁ : length w₁ ≡ length wk
    long₁ = ap length e₁ ∙ length-paste wk 0 els (4 * n) (omega (arith, room.work)) room.elements

    head₁ : take (4 * n) w₁ ≡ take (4 * n) els
    head₁ = ap (take (4 * n)) e₁ ∙ take_at (take (4 * n) els) (drop (0 + 4 * n) wk) (4 * n) (length-take-le (4 * n) els room.elements)

    elements₁ : tets n w₁ ≡ tets n els
    elements₁ = tets-kept n w₁ els head₁

    module _ (r : Outcome) (w₂ : List ℕ) (g : ◌≡◌ {A = Filled} (record { answer = r; area = w₂ }) (boundary_in n w₁)) where
      whole : ◌≡◌ {A = Filled} (record { answer = r; area = w₂ }) (record { answer = answer_of (tets n w₁); area = area_after n w₁ })
      whole = g ∙ filled_is n w₁ (area-fits n (length w₁) room.few (omega (arith, room.work, long₁)))

      pub part_room : length w₂ ≡ length w₁ → (n ≤ 16384) × (4 * n ≤ length w₂)
      part_room long₂ = (room.few, omega (arith, long₂, long₁, room.work))

      answered : r ≡ answer_of (tets n els)
      answered = ap (λ (u : Filled). u.answer) whole ∙ ap answer_of elements₁

      left₂ : List ℕ
      left₂ = zero_words (length w₁ - (4 * n + length (surface_words (tets n w₁))))

      area₂ : drop (4 * n) w₂ ≡ surface_words (tets n els) ++ left₂
      unfolding left₂
      area₂ =
          ap (drop (4 * n)) (ap (λ (u : Filled). u.area) whole)
          ∙ area-behind n w₁ (omega (arith, room.work, long₁))
          ∙ ap (λ (ts : List Tet). surface_words ts ++ left₂) elements₁

      -- a refusal: the surface as it was, and all work 0 already
      pub refused : (k : ℕ) → r ≡ Refused k → ◌≡◌ {A = Call} (record { answer = Refused k; surface = sf; work = w₂ }) (boundary_call n els sf wk)
      unfolding boundary_call
      refused k hr =
          let a : w₂ ≡ zero_words (length wk) = refused-zeros n w₁ g hr ∙ ap zero_words long₁ in
          let b : sf ≡ surface_words (tets n els) ++ drop (length (surface_words (tets n els))) sf = sym (rw (refused-words (tets n els) k (sym answered ∙ hr)) refl) in
          (λ i. record { answer = (sym hr ∙ answered) i; surface = b i; work = a i }) ∙ rw fits

      -- a surface of c triples
      module _ (c : ℕ) (hr : r ≡ Surface c) where
        triples : c ≡ triples_of (answer_of (tets n els))
        triples = sym (ap triples_of (sym answered ∙ hr))

        count : length (surface_words (tets n els)) ≡ 3 * c
        count = words_count (tets n els) ∙ ap (λ (i : ℕ). 3 * i) (sym triples)

        few : c ≤ 4 * n
        few = omega (arith, triples, triples-few n els)

        pub few-triples : (n ≤ 16384) × (c ≤ 4 * n)
        few-triples = (room.few, few)

        part : mid_of (4 * n) (length w₂ - 4 * n) w₂ ≡ surface_words (tets n els) ++ left₂
        part = tail-mid (4 * n) w₂ ∙ area₂

        pub copy-room : (3 * c ≤ length sf) × (3 * c ≤ length (mid_of (4 * n) (length w₂ - 4 * n) w₂))
        copy-room = (omega (arith, few, room.surface), omega (arith, ap length part, length-append (surface_words (tets n els)) left₂, count))

        pub called : (long₂ : length w₂ ≡ length w₁) (sf' : List ℕ) → sf' ≡ paste sf 0 (mid_of (4 * n) (length w₂ - 4 * n) w₂) (3 * c) → (z : List ℕ) → z ≡ zero_words (length w₂)
            → ◌≡◌ {A = Call} (record { answer = Surface c; surface = sf'; work = z }) (boundary_call n els sf wk)
        unfolding boundary_call
        called long₂ sf' e z f =
            let w = surface_words (tets n els) in
            let k : 0 + 3 * c ≡ length w = omega (arith, count) in
            let a : sf' ≡ w ++ drop (length w) sf =
            e ∙ ap₂ (λ (u : List ℕ) (i : ℕ). u ++ drop i sf) (ap (take (3 * c)) part ∙ take_at w left₂ (3 * c) count) k in
            let b : z ≡ zero_words (length wk) = f ∙ ap zero_words (long₂ ∙ long₁) in
            (λ i. record { answer = (sym hr ∙ answered) i; surface = a i; work = b i }) ∙ rw fits

-- The boundary of the elements in an area and its keys beside those given: what `flip_surface` answers, and what it leaves. Assumes nothing.
use mathlib.Core.Path.{◌≡◌, refl, sym, ap, ◌∙◌}
use mathlib.Core.Logic.{⊎_elim}
use mathlib.Core.Bool.{Bool, true, false, cond}
use mathlib.Core.List.{List, ◌++◌, append_assoc}
use Prim.Native.Nat.{ℕ, ◌+◌, ◌-◌, ◌*◌, ◌≤◌}
use native.Mathlib.Omega.{arith}
use borrow.Author.Tests.{eqb-false}
use borrow.Rule.Slice.PartMut.{mid_of, put_mid}
use lib.Dec.{eqb}
use lib.ListN.{length, take, drop, take-append-drop}
use lib.Seq.{take_at, drop_at, take-take, length-take-le}
use Rattle.mesh.specs.declared.element.Tet.{Tet}
use Rattle.mesh.specs.declared.element.Triple.{Triple}
use Rattle.mesh.specs.Surface.{Outcome}
use Rattle.mesh.specs.Surface.{Surface, Refused}
use Rattle.mesh.specs.Words.{zero_words}
use Rattle.mesh.specs.Element.{tets, triples, all_corners}
use Rattle.mesh.specs.Boundary.{boundary_number, boundary_of}
use Rattle.mesh.specs.Surface.{triples_of, answer, answer_of, surface_words}
use Rattle.mesh.specs.inside.Surface.{area_fits, Filled, area_after, boundary_in}
use Rattle.mesh.proofs.Laws.Complex.Sets.{split}
use Rattle.mesh.proofs.Laws.Parts.{part_same}
use Rattle.mesh.proofs.Laws.Boundary.Faces.{tets-kept}
use Rattle.mesh.proofs.Laws.Boundary.Whole.{words_count, triples-few, area-front, area-behind, area-long, filled_is}
use Rattle.mesh.proofs.Laws.Manifold.Whole.{triples-flat}
use Rattle.repair.specs.Flip.{sorted_keys, same_triples, end_number}
use Rattle.repair.specs.inside.Layout.{Same}
use Rattle.repair.specs.inside.flip.Finish.{keyed_outcome, SurfaceEnded}
use Rattle.repair.proofs.Laws.Finish.Surface.{words-flat}
use Rattle.repair.proofs.Laws.Finish.Ended.{good-answer, good-words, bad-answer, refused-answer}

-- ---- by the number of the boundary

pub good-end : (fs : List Triple) (ts : List Tet) → eqb (boundary_number ts) 0 ≡ true → end_number fs ts ≡ cond (same_triples (sorted_keys (boundary_of ts)) (sorted_keys fs)) 0 23
unfolding end_number
good-end fs ts e = rw e refl

pub bad-end : (fs : List Triple) (ts : List Tet) → eqb (boundary_number ts) 0 ≡ false → end_number fs ts ≡ boundary_number ts
unfolding end_number
bad-end fs ts e = rw e refl

keyed-answer : (b : Bool) (c : ℕ) → cond b (Surface c) (Refused 23) ≡ answer (cond b 0 23) c
unfolding answer
keyed-answer true c = refl
keyed-answer false c = refl

-- ---- `boundary_in` on a part

module _ (k g : ℕ) (s₀ f : List ℕ) (fit : area_fits k (36 * k) ≡ true) (room : 36 * k + 18 * g ≤ length s₀) (o : Outcome) (p : List ℕ)
    (found : ◌≡◌ {A = Filled} (record { answer = o; area = p }) (boundary_in k (mid_of 0 (36 * k - 0) s₀))) where
  abbrev ts : List Tet
  ts = tets k s₀

  abbrev part : List ℕ
  part = mid_of 0 (36 * k - 0) s₀

  part-is : part ≡ take (36 * k) s₀
  part-is = let q : 36 * k - 0 ≡ 36 * k = omega arith in ap (λ (i : ℕ). take i s₀) q

  part-long : length part ≡ 36 * k
  part-long = ap length part-is ∙ length-take-le (36 * k) s₀ (omega arith)

  part-front : take (4 * k) part ≡ take (4 * k) s₀
  part-front = ap (take (4 * k)) part-is ∙ take-take (4 * k) (36 * k) s₀ (omega arith)

  part-tets : tets k part ≡ ts
  part-tets = tets-kept k part s₀ part-front

  filled : ◌≡◌ {A = Filled} (record { answer = o; area = p }) (record { answer = answer_of (tets k part); area = area_after k part })
  filled = found ∙ filled_is k part (ap (area_fits k) part-long ∙ fit)

  found-is : o ≡ answer_of ts
  found-is = ap (λ (u : Filled). u.answer) filled ∙ ap answer_of part-tets

  abbrev zs : List ℕ
  zs = zero_words (36 * k - (4 * k + length (surface_words ts)))

  -- what stands in the place of the elements, and behind them
  abbrev front : List ℕ
  front = take (4 * k) p

  area-is : p ≡ front ++ (surface_words ts ++ zs)
  area-is =
      sym (take-append-drop (4 * k) p)
      ∙ ap (λ (l : List ℕ). front ++ l) (ap (λ (u : Filled). drop (4 * k) u.area) filled ∙ area-behind k part (omega (arith, part-long)) ∙ rw (part-tets, part-long) refl)

  front_long : length front ≡ 4 * k
  front_long = length-take-le (4 * k) p (omega (arith, ap (λ (u : Filled). length u.area) filled, area-long k part (omega (arith, part-long)), part-long))

  -- the elements are kept with no bad key
  front_kept : eqb (boundary_number ts) 0 ≡ true → front ≡ take (4 * k) s₀
  front_kept q =
      ap (λ (u : Filled). take (4 * k) u.area) filled
      ∙ area-front k part (omega (arith, part-long)) (ap (λ (l : List Tet). eqb (boundary_number l) 0) part-tets ∙ q) ∙ part-front

  -- the area then
  abbrev s₁ : List ℕ
  s₁ = put_mid 0 (36 * k - 0) s₀ p

  abbrev rest : List ℕ
  rest = zs ++ drop (36 * k - 0) s₀

  given_is : s₁ ≡ front ++ (surface_words ts ++ rest)
  given_is =
      ap (λ (u : List ℕ). u ++ drop (36 * k - 0) s₀) area-is
      ∙ append_assoc front (surface_words ts ++ zs) (drop (36 * k - 0) s₀)
      ∙ ap (λ (u : List ℕ). front ++ u) (append_assoc (surface_words ts) zs (drop (36 * k - 0) s₀))

  given-front : take (4 * k) s₁ ≡ front
  given-front = ap (take (4 * k)) given_is ∙ take_at front (surface_words ts ++ rest) (4 * k) front_long

  given-drop : drop (4 * k) s₁ ≡ surface_words ts ++ rest
  given-drop = ap (drop (4 * k)) given_is ∙ drop_at front (surface_words ts ++ rest) (4 * k) front_long

  module _ (r : Outcome) (s : List ℕ) (hr : r ≡ keyed_outcome k g o s₁ f) (hs : Same s₁ s (36 * k + 3 * g) (length s₁)) where
    front-is : take (4 * k) s ≡ front
    front-is = part_same 0 s s₁ 0 (4 * k) hs.long (λ j a b. hs.before j (omega arith)) ∙ given-front

    -- with no bad key
    module _ (q : eqb (boundary_number ts) 0 ≡ true) where
      abbrev c : ℕ
      c = length (boundary_of ts)

      few : c ≤ 4 * k
      few = omega (arith, triples-few k s₀, ap triples_of (good-answer ts q))

      count-is : length (surface_words ts) ≡ 3 * c
      count-is = omega (arith, words_count ts, ap triples_of (good-answer ts q))

      triples-are : triples c (drop (4 * k) s₁) ≡ boundary_of ts
      triples-are = ap (triples c) (given-drop ∙ ap (λ (u : List ℕ). u ++ rest) (good-words ts q)) ∙ triples-flat (boundary_of ts) rest

      answer-good : r ≡ answer (end_number (triples g f) ts) c
      answer-good =
          hr ∙ ap (λ (u : Outcome). keyed_outcome k g u s₁ f) (found-is ∙ good-answer ts q)
          ∙ ap (λ (l : List Triple). cond (same_triples (sorted_keys l) (sorted_keys (triples g f))) (Surface c) (Refused 23)) triples-are
          ∙ keyed-answer (same_triples (sorted_keys (boundary_of ts)) (sorted_keys (triples g f))) c
          ∙ ap (λ (i : ℕ). answer i c) (sym (good-end (triples g f) ts q))

      surface-good : take (3 * c) (drop (4 * k) s) ≡ all_corners (boundary_of ts)
      surface-good =
          let n = few in
          part_same 0 s s₁ (4 * k) (3 * c) hs.long (λ j a b. hs.before j (omega arith))
          ∙ ap (take (3 * c)) given-drop ∙ take_at (surface_words ts) rest (3 * c) count-is ∙ good-words ts q ∙ words-flat (boundary_of ts)

      good : SurfaceEnded k g f s₀ s r
      good = record { answer = answer-good; front = λ z. front-is ∙ front_kept q; surface = λ z. surface-good }

    -- with a bad one
    bad : eqb (boundary_number ts) 0 ≡ false → SurfaceEnded k g f s₀ s r
    bad q = record {
      answer =
          hr ∙ ap (λ (u : Outcome). keyed_outcome k g u s₁ f) (found-is ∙ bad-answer ts q)
          ∙ refused-answer (boundary_number ts) (length (boundary_of ts)) q ∙ ap (λ (i : ℕ). answer i (length (boundary_of ts))) (sym (bad-end (triples g f) ts q));
      front = λ z. absurd (eqb-false (boundary_number ts) 0 q (sym (bad-end (triples g f) ts q) ∙ z));
      surface = λ z. absurd (eqb-false (boundary_number ts) 0 q (sym (bad-end (triples g f) ts q) ∙ z));
    }

    pub surface-ended : SurfaceEnded k g f s₀ s r
    surface-ended = ⊎_elim good bad (split (eqb (boundary_number ts) 0))

-- ---- `test_keys`

pub keyed-none : (k g : ℕ) (s f : List ℕ) {o : Outcome} {n : ℕ} → o ≡ Refused n → Refused n ≡ keyed_outcome k g o s f
keyed-none k g s f ho = rw ho refl

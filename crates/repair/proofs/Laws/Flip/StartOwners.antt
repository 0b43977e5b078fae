-- A listed face with two owners at the start, both still live, has these two and no other, since at most two elements have a triangle.
-- Assumes nothing.
use mathlib.Core.Path.{◌≡◌, refl, sym, ap, subst, ◌∙◌}
use mathlib.Core.Logic.{◌⊎◌, inl, inr, ⊎_elim}
use mathlib.Core.Bool.{Bool, true}
use mathlib.Core.List.{List, [], ◌∷◌, ◌++◌, map, Memᴰ}
use mathlib.Core.Option.{Option, none, some}
use Prim.Native.Nat.{ℕ, zero, suc, ◌+◌, ◌-◌, ◌≤◌, ◌<◌}
use native.Mathlib.Omega.{arith}
use lib.ListN.{length, get_or, length-append}
use Rattle.mesh.specs.declared.element.Tet.{Tet}
use Rattle.mesh.specs.Complex.{keep, Nodup}
use Rattle.mesh.specs.inside.Complex.{Proper}
use Rattle.mesh.specs.Element.{vertices_of, has_all}
use Rattle.mesh.specs.Link.{without}
use Rattle.mesh.specs.Words.{numbers}
use Rattle.mesh.proofs.Laws.Complex.Sets.{split}
use Rattle.mesh.proofs.Laws.Link.Members.{kept-elim, kept-intro}
use Rattle.mesh.proofs.Laws.Link.Closed.{AtMostTwo}
use Rattle.mesh.proofs.Laws.Boundary.Same.{length-map}
use Rattle.repair.specs.Flip.{slot_has, live, numbers_with, elements_at, besides}
use Rattle.repair.proofs.Laws.Flip.Slots.{none-some, Aged, at-live, length-with}
use Rattle.repair.proofs.Laws.Flip.Replace.{elements_of}
use Rattle.repair.proofs.Laws.Flip.Owners.{length_without, star-owners, element-of}
use Rattle.mesh.proofs.Laws.NumbersFrom.{numbers-split}

-- ---- lists

-- the numbers from k on
numbers-under : (k n i : ℕ) → Memᴰ i (numbers k n) → i < k + n
unfolding numbers
numbers-under k zero i m = absurd (mathlib.Core.List.Memᴰ.not-nil m)
numbers-under k (suc n) i m = elim (mathlib.Core.List.Memᴰ.cases_cons m) [ inl e ↦ omega arith | inr q ↦ let r = numbers-under (k + 1) n i q in omega arith ]

module _ {A : Type 0} (p q : A → Bool) (r : List A) where
  keep-under : (l : List A) → ((x : A) → Memᴰ x l → p x ≡ true → q x ≡ true) → length (keep p l) ≤ length (keep q (l ++ r))
  keep-under [] h = omega arith
  keep-under (x ∷ l) h =
      let ih = keep-under l (λ y m. h y (mathlib.Core.List.Memᴰ.tail m)) in
      elim (split (p x)) [
        | inl k ↦ rw (k, h x (mathlib.Core.List.Memᴰ.head refl) k) (omega arith)
        | inr k ↦ elim (split (q x)) [ inl g ↦ rw (k, g) (omega arith) | inr g ↦ rw (k, g) ih ]
      ]

  -- what passes p passes q, and no more do: they are the same
  squeezed : (l : List A) → ((x : A) → Memᴰ x l → p x ≡ true → q x ≡ true) → length (keep q (l ++ r)) ≤ length (keep p l) → keep p l ≡ keep q (l ++ r)
  squeezed [] h s = sym (empty (keep q r) s)
    where
      empty : (l : List A) → length l ≤ 0 → l ≡ []
      empty [] s = refl
      empty (x ∷ l) s = absurd (omega arith)
  squeezed (x ∷ l) h s =
      let h' : (y : A) → Memᴰ y l → p y ≡ true → q y ≡ true = λ y m. h y (mathlib.Core.List.Memᴰ.tail m) in
      let ih = squeezed l h' in
      let u = keep-under l h' in
      elim (split (p x)) [
        | inl k ↦ let g = h x (mathlib.Core.List.Memᴰ.head refl) k in let s' = rw (k, g) at s in rw (k, g) (ap (λ m. x ∷ m) (ih (omega arith)))
        | inr k ↦ elim (split (q x)) [ inl g ↦ let s' = rw (k, g) at s in absurd (omega arith) | inr g ↦ rw (k, g) (ih (rw (k, g) at s)) ]
      ]

-- ---- slots that are all live

module _ (g : ℕ → Option Tet) where
  live-few : (is : List ℕ) → length (live (map g is)) ≤ length is
  unfolding live
  live-few [] = omega arith
  live-few (i ∷ is) = go (g i) (live-few is)
    where
      go : (x : Option Tet) → length (live (map g is)) ≤ length is → length (live (x ∷ map g is)) ≤ suc (length is)
      go none h = omega arith
      go (some t) h = omega arith

  -- as many as numbers: no slot has nothing
  live_all : (is : List ℕ) → length (live (map g is)) ≡ length is → (i : ℕ) → Memᴰ i is → g i ≡ none → ⊥
  unfolding live
  live_all [] h i m e = mathlib.Core.List.Memᴰ.not-nil m
  live_all (j ∷ is) h i m e = go (g j) refl (live-few is) h (live_all is) (mathlib.Core.List.Memᴰ.cases_cons m)
    where
      go : (x : Option Tet) → g j ≡ x → length (live (map g is)) ≤ length is → length (live (x ∷ map g is)) ≡ suc (length is)
          → (length (live (map g is)) ≡ length is → (i : ℕ) → Memᴰ i is → g i ≡ none → ⊥) → (i ≡ j) ⊎ Memᴰ i is → ⊥
      go none f few h ih c = omega arith
      go (some t) f few h ih (inl q) = none-some (sym (sym f ∙ ap g (sym q) ∙ e))
      go (some t) f few h ih (inr q) = ih (omega arith) i q e

  -- an element of the numbers stands in the slot of one
  live-elim : (is : List ℕ) (t : Tet) → Memᴰ t (live (map g is)) → (i : ℕ) × Memᴰ i is × (g i ≡ some t)
  unfolding live
  live-elim [] t m = absurd (mathlib.Core.List.Memᴰ.not-nil m)
  live-elim (j ∷ is) t m = go (g j) refl m (live-elim is t)
    where
      go : (x : Option Tet) → g j ≡ x → Memᴰ t (live (x ∷ map g is)) → (Memᴰ t (live (map g is)) → (i : ℕ) × Memᴰ i is × (g i ≡ some t))
          → (i : ℕ) × Memᴰ i (j ∷ is) × (g i ≡ some t)
      go none f m ih = let r = ih m in (r.0, mathlib.Core.List.Memᴰ.tail r.1, r.2)
      go (some u) f m ih = elim (mathlib.Core.List.Memᴰ.cases_cons m) [
        | inl q ↦ (j, mathlib.Core.List.Memᴰ.head refl, f ∙ ap some (sym q))
        | inr q ↦ let r = ih q in (r.0, mathlib.Core.List.Memᴰ.tail r.1, r.2)
      ]

besides-length : (σ : List ℕ) (ts : List Tet) → ((t : Tet) → Memᴰ t ts → length (without σ (vertices_of t)) ≡ 1) → length (besides σ ts) ≡ length ts
unfolding besides
besides-length σ [] h = refl
besides-length σ (t ∷ ts) h =
    let ih = besides-length σ ts (λ u m. h u (mathlib.Core.List.Memᴰ.tail m)) in
    omega (arith, h t (mathlib.Core.List.Memᴰ.head refl), length-append (without σ (vertices_of t)) (besides σ ts))

-- ---- the owners are those of the start

module _ (n : ℕ) (u v w : ℕ) (d : Nodup (u ∷ v ∷ w ∷ [])) (ts : List Tet) (ss : List (Option Tet)) (aged : Aged ts ss) (P : Proper n (elements_of ss)) (thin : AtMostTwo (elements_of ss)) where
  abbrev face : List ℕ
  face = u ∷ v ∷ w ∷ []

  -- the numbers of the face's owners at the start
  abbrev starters : List ℕ
  starters = numbers_with face (map some ts)

  started : (i : ℕ) → Memᴰ i starters → (i < length ts) × (slot_has face (get_or (map some ts) i none) ≡ true)
  started i m =
      let r = kept-elim (λ j. slot_has face (get_or (map some ts) j none)) (numbers 0 (length (map some ts))) m in
      (let l = numbers-under 0 (length (map some ts)) i r.0 in omega (arith, length-map some ts), r.1)

  owner : (t : Tet) → Memᴰ t (elements_at ss starters) → Memᴰ t (live ss) × (has_all face t ≡ true)
  owner t m =
      let r = live-elim (λ i. get_or ss i none) starters t m in
      let k = started r.0 r.1 in
      (at-live ss r.0 t r.2, ⊎_elim (λ e. absurd (none-some (sym e ∙ r.2))) (λ e. ap (slot_has face) (sym r.2 ∙ e) ∙ k.1) (aged.old r.0 k.0))

  one-apex : (t : Tet) → Memᴰ t (live ss) → has_all face t ≡ true → length (without face (vertices_of t)) ≡ 1
  one-apex t m h = let r = length_without n face (vertices_of t) (element-of n t (live ss) P m) d h in omega arith

  -- a face with two owners at the start, both still live: they are its owners now, so that no element made since has it
  pub owners-of-start : length starters ≡ 2 → length (besides face (elements_at ss starters)) ≡ 2 → starters ≡ numbers_with face ss
  owners-of-start two apexes =
      ap (λ k. keep p (numbers 0 k)) (length-map some ts)
      ∙ squeezed p q (numbers (0 + length ts) (length ss - length ts)) (numbers 0 (length ts)) kept (subst (λ l. length (keep q l) ≤ length (keep p (numbers 0 (length ts)))) split-numbers few)
      ∙ ap (keep q) (sym split-numbers)
    where
      p : ℕ → Bool
      p i = slot_has face (get_or (map some ts) i none)

      q : ℕ → Bool
      q i = slot_has face (get_or ss i none)

      split-numbers : numbers 0 (length ss) ≡ numbers 0 (length ts) ++ numbers (0 + length ts) (length ss - length ts)
      split-numbers =
          let l = aged.long in
          let e : length ss ≡ length ts + (length ss - length ts) = omega arith in
          ap (numbers 0) e ∙ numbers-split 0 (length ts) (length ss - length ts)

      few : length (keep q (numbers 0 (length ss))) ≤ length (keep p (numbers 0 (length ts)))
      few =
          let t = thin face refl d in
          let e : length (keep p (numbers 0 (length ts))) ≡ 2 = ap (λ k. length (keep p (numbers 0 k))) (sym (length-map some ts)) ∙ two in
          omega (arith, length-with face ss, star-owners face (live ss))

      all_live : length (elements_at ss starters) ≡ length starters
      all_live =
          let e = besides-length face (elements_at ss starters) (λ t m. one-apex t (owner t m).0 (owner t m).1) in
          omega arith

      kept : (i : ℕ) → Memᴰ i (numbers 0 (length ts)) → p i ≡ true → q i ≡ true
      kept i m h =
          let k : Memᴰ i starters = kept-intro p (numbers 0 (length (map some ts))) (subst (λ j. Memᴰ i (numbers 0 j)) (sym (length-map some ts)) m) h in
          ⊎_elim (λ e. absurd (live_all (λ j. get_or ss j none) starters all_live i k e)) (λ e. ap (slot_has face) e ∙ h) (aged.old i (started i k).0)

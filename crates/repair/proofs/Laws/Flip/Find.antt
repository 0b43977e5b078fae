-- What the index finds for `flip`: the words of a slot have certain vertices just where its element has them, so that the answers of
-- `mesh::with` are those of the state. Assumes nothing.
use mathlib.Core.Path.{◌≡◌, refl, sym, ap, ap₂, subst, ◌∙◌}
use mathlib.Core.Logic.{inl, inr}
use mathlib.Core.Bool.{Bool, true, false, cond, ◌||◌}
use mathlib.Core.List.{List, [], ◌∷◌, map}
use mathlib.Core.Option.{Option, none, some}
use Prim.Native.Nat.{ℕ, suc, ◌+◌, ◌*◌, ◌≤◌, ◌<◌}
use native.Mathlib.Nat.{zero-add}
use native.Mathlib.Omega.{arith}
use lib.ListN.{length, take, drop, get_or}
use Rattle.mesh.specs.declared.element.Tet.{Tet}
use Rattle.mesh.specs.declared.star.Index.{Index}
use Rattle.mesh.specs.Complex.{mem, keep}
use Rattle.mesh.specs.Tests.{every, any}
use Rattle.mesh.specs.Element.{vertices_of, has_all}
use Rattle.mesh.specs.Words.{numbers}
use Rattle.mesh.specs.inside.Star.{gone_tet}
use Rattle.mesh.specs.inside.About as About
use Rattle.mesh.specs.inside.With.{any_with, with_list, with_in}
use Rattle.mesh.proofs.Laws.Complex.Sets.{split, clash, nope, and-fst, and-snd, mem-here, sub-elim}
use Rattle.mesh.proofs.Laws.Star.Calls.{Answered}
use Rattle.mesh.proofs.Laws.With.Found.{any_found, with-count, with-answered}
use Rattle.repair.specs.Flip.{State, slot_has, numbers_with}
use Rattle.repair.specs.inside.Layout.{Same, slot_ok, slots_in}
use Rattle.repair.specs.inside.flip.Layout.{SlotsStand, slot_of}
use Rattle.repair.proofs.Laws.Same.{same-front}
use Rattle.repair.proofs.Laws.Replace.Slots.{gone-has, ok-cases, well-there}
use Rattle.repair.proofs.Laws.Flip.Layout.{room-laid, area-long}

-- ---- slots and their words

module _ (nv : ℕ) (few : nv ≤ 4096) (a : ℕ) (ha : a < nv) (σ : List ℕ) (ma : mem a σ ≡ true) where
  -- a gone slot has no vertex
  none_has : has_all σ gone_tet ≡ false
  none_has = nope (λ h. clash (sub-elim σ (vertices_of gone_tet) h a ma) (gone-has a (λ e. omega arith)))

  slot_has_lem : (t : Tet) → slot_ok nv t ≡ true → slot_has σ (slot_of t) ≡ has_all σ t
  unfolding slot_of
  slot_has_lem t ok =
      elim (ok-cases nv t ok) [
        | inl g ↦ subst (λ (u : Tet). slot_has σ (slot_of u) ≡ has_all σ u) (sym g) (sym none_has)
        | inr g ↦ ap (λ (b : Bool). slot_has σ (cond b none (some t))) (well-there nv few t g)
      ]

  -- one of the slots has them
  any-slots : (ts : List Tet) → every (slot_ok nv) ts ≡ true → any (slot_has σ) (map slot_of ts) ≡ any (has_all σ) ts
  any-slots [] h = refl
  any-slots (t ∷ ts) h =
      ap₂ (λ (b c : Bool). b || c) (slot_has_lem t (and-fst (slot_ok nv t) (every (slot_ok nv) ts) h)) (any-slots ts (and-snd (slot_ok nv t) (every (slot_ok nv) ts) h))

  numbers-from : (g : ℕ → Option Tet) (k : ℕ) (ts : List Tet) → every (slot_ok nv) ts ≡ true → ((j : ℕ) → g (k + j) ≡ get_or (map slot_of ts) j none)
      → About.pass_from (has_all σ) k ts ≡ keep (λ i. slot_has σ (g i)) (numbers k (length (map slot_of ts)))
  unfolding About.pass_from numbers
  numbers-from g k [] h e = refl
  numbers-from g k (t ∷ ts) h e =
      let z : k ≡ k + 0 = omega arith in
      let here : slot_has σ (g k) ≡ has_all σ t = ap (λ (i : ℕ). slot_has σ (g i)) z ∙ ap (slot_has σ) (e 0) ∙ slot_has_lem t (and-fst (slot_ok nv t) (every (slot_ok nv) ts) h) in
      let ih = numbers-from g (k + 1) ts (and-snd (slot_ok nv t) (every (slot_ok nv) ts) h) (λ j. ap g (next j) ∙ e (suc j)) in
      elim (split (has_all σ t)) [ inl q ↦ rw (here ∙ q, q) (ap (λ (l : List ℕ). k ∷ l) ih) | inr q ↦ rw (here ∙ q, q) ih ]
    where
      next : (j : ℕ) → k + 1 + j ≡ k + suc j
      next j = omega arith

  -- the numbers of those that have them
  numbers-found : (ts : List Tet) → every (slot_ok nv) ts ≡ true → About.pass_from (has_all σ) 0 ts ≡ numbers_with σ (map slot_of ts)
  numbers-found ts h = numbers-from (λ i. get_or (map slot_of ts) i none) 0 ts h (λ j. ap (λ (n : ℕ). get_or (map slot_of ts) n none) (zero-add j))

-- ---- the answers

module _ {x : Index} {n c : ℕ} {w : List ℕ} {s : State} (z : SlotsStand x n c w s) where
  -- whether a live element has three vertices
  pub any-stands : (u v y : ℕ) → u < x.vertices → v < x.vertices → any_with x w u v y ≡ any (slot_has (u ∷ v ∷ y ∷ [])) s.slots
  any-stands u v y hu hv =
      any_found x w c z.index u v y hu hv
      ∙ sym (any-slots x.vertices z.room.few u hu (u ∷ v ∷ y ∷ []) (mem-here u (v ∷ y ∷ [])) (slots_in x c w) z.proper)
      ∙ ap (any (slot_has (u ∷ v ∷ y ∷ []))) (sym z.slots)

  -- the live elements that have two vertices
  pub both-stands : (a b r : ℕ) (t : List ℕ) → a < x.vertices → b < x.vertices → r ≡ length (with_list x w a b) → t ≡ with_in x w a b
      → (r ≡ length (numbers_with (a ∷ b ∷ []) s.slots)) × (take r (drop x.area t) ≡ numbers_with (a ∷ b ∷ []) s.slots) × Same w t x.area (length w)
  both-stands a b r t ha hb er et =
      let σ = a ∷ b ∷ [] in
      let l = room-laid z.room in
      let fit : x.area + (4 * c + 4 * c) ≤ length w = let g = area-long z.room in let h = z.fits in let k = z.room.room in omega arith in
      let us = About.pass_from (has_all σ) 0 (slots_in x c w) in
      let f : us ≡ numbers_with σ s.slots =
      numbers-found x.vertices z.room.few a ha σ (mem-here a (b ∷ [])) (slots_in x c w) z.proper ∙ ap (numbers_with σ) (sym z.slots) in
      let e : r ≡ length us = er ∙ with-count x w c z.index a b ha hb l fit in
      let A : Answered w t x.area us = subst (λ (y : List ℕ). Answered w y x.area us) (sym et) (with-answered x w c z.index a b ha hb l fit) in
      (e ∙ ap length f, ap (λ (k : ℕ). take k (drop x.area t)) e ∙ A.list ∙ f, same-front x.area A.long A.below)

-- Three-to-two: an edge of exactly three live elements with three other vertices in all. A turn of `try_edges` is a flip of the live
-- elements, or nothing. Assumes nothing.
use mathlib.Core.Path.{◌≡◌, refl, sym, ap, subst, ◌∙◌}
use mathlib.Core.Logic.{◌≢◌, inl, inr}
use mathlib.Core.Bool.{Bool, true, false, not, cond, ◌&&◌}
use mathlib.Core.List.{List, [], ◌∷◌, Memᴰ}
use Prim.Native.Nat.{ℕ, ◌≤◌}
use native.Mathlib.Omega.{arith}
use borrow.Author.Tests.{eqb-true, eq-eqb, leb-false, not-true}
use lib.Dec.{eqb, leb}
use lib.ListN.{length, get_or}
use Rattle.geometry.specs.Float.{one64}
use Rattle.geometry.specs.Units.{units_of}
use Rattle.mesh.specs.declared.element.Pair.{Pair}
use Rattle.mesh.specs.declared.element.Tet.{Tet}
use Rattle.mesh.specs.Sort.{sort, unique}
use Rattle.mesh.specs.inside.Sort.{before, headed, ordered}
use Rattle.mesh.specs.Complex.{mem, sub, Nodup, Sub}
use Rattle.mesh.specs.inside.Moves.{Flippable32}
use Rattle.mesh.specs.Element.{tet, vertices_of, has_all}
use Rattle.mesh.specs.Link.{without}
use Rattle.mesh.specs.Measure.{Measure}
use Rattle.mesh.proofs.Laws.Complex.Sets.{split, clash, nope, or_cases, or_left, or_right, and-fst, and-snd, mem-there, mem-nil, out}
use Rattle.mesh.proofs.Laws.Sort.{ordered-sort}
use Rattle.mesh.proofs.Laws.Unique.{elem-unique, unique-rising}
use Rattle.mesh.proofs.Laws.Link.Members.{kept-intro}
use Rattle.mesh.proofs.Laws.Link.Simplices.{sort-mem}
use Rattle.mesh.specs.Tests.{any}
use Rattle.repair.specs.Wholeness.{Exact}
use Rattle.repair.specs.Flip.{State, slot_has, live, numbers_with, elements_at, besides, replace, three_to_two, try_edge}
use Rattle.repair.proofs.Laws.Site.Near.{mem-append}
use Rattle.repair.proofs.Laws.Flip.Slots.{any-within, elements-with, length-with}
use Rattle.repair.proofs.Laws.Flip.Replace.{Held, elements_of, replace-held}
use Rattle.repair.proofs.Laws.Flip.Owners.{without-elim, without-intro, star-owners}
use Rattle.repair.proofs.Laws.Flip.Five.{flippable32}
use Rattle.repair.proofs.Laws.Flip.Flipped.{flipped32}
use Rattle.mesh.proofs.Laws.Numbers.{elem_is, leb-total, leb-anti}

-- ---- the other vertices

besides-intro : (σ : List ℕ) (ts : List Tet) (t : Tet) (x : ℕ) → Memᴰ t ts → mem x (vertices_of t) ≡ true → mem x σ ≡ false → mem x (besides σ ts) ≡ true
unfolding besides
besides-intro σ [] t x m h o = absurd (mathlib.Core.List.Memᴰ.not-nil m)
besides-intro σ (u ∷ ts) t x m h o =
    mem-append x (without σ (vertices_of u)) (besides σ ts) ∙ elim (mathlib.Core.List.Memᴰ.cases_cons m) [
      | inl e ↦ or_left (mem x (besides σ ts)) (without-intro σ (vertices_of u) x (subst (λ z. mem x (vertices_of z) ≡ true) e h) o)
      | inr q ↦ or_right (mem x (without σ (vertices_of u))) (besides-intro σ ts t x q h o)
    ]

pub besides-out : (σ : List ℕ) (ts : List Tet) (x : ℕ) → mem x (besides σ ts) ≡ true → mem x σ ≡ false
unfolding besides
besides-out σ [] x m = absurd (mem-nil x m)
besides-out σ (t ∷ ts) x m =
    elim (or_cases (mem x (without σ (vertices_of t))) (mem x (besides σ ts)) (sym (mem-append x (without σ (vertices_of t)) (besides σ ts)) ∙ m)) [
      | inl h ↦ (without-elim σ (vertices_of t) x h).1
      | inr h ↦ besides-out σ ts x h
    ]

-- ---- sorted, each once

pub set-mem : (x : ℕ) (l : List ℕ) → mem x (unique eqb (sort leb l)) ≡ mem x l
set-mem x l =
    sym (elem_is x (unique eqb (sort leb l))) ∙ elem-unique eqb eqb-true x (sort leb l) ∙ elem_is x (sort leb l) ∙ sort-mem x l

pub set-rises : (l : List ℕ) → ordered (before leb) (unique eqb (sort leb l)) ≡ true
set-rises l = unique-rising eqb eqb-true (λ a. eq-eqb a a refl) leb leb-anti (sort leb l) (ordered-sort leb leb-total l)

pub three-rise : (u v w : ℕ) → ordered (before leb) (u ∷ v ∷ w ∷ []) ≡ true → Nodup (u ∷ v ∷ w ∷ [])
unfolding ordered headed before
three-rise u v w h =
    let uv = leb-false v u (not-true (leb v u) (and-fst (not (leb v u)) _ h)) in
    let vw = leb-false w v (not-true (leb w v) (and-fst (not (leb w v)) _ (and-snd (not (leb v u)) _ h))) in
    (out u v (w ∷ []) (λ e. omega arith) (out u w [] (λ e. omega arith) refl), (out v w [] (λ e. omega arith) refl, (refl, tt)))

pub three-of : (l : List ℕ) → length l ≡ 3 → l ≡ get_or l 0 0 ∷ get_or l 1 0 ∷ get_or l 2 0 ∷ []
three-of [] h = absurd (omega arith)
three-of (x ∷ []) h = absurd (omega arith)
three-of (x ∷ y ∷ []) h = absurd (omega arith)
three-of (x ∷ y ∷ z ∷ []) h = refl
three-of (x ∷ y ∷ z ∷ w ∷ l) h = absurd (omega arith)

-- ---- an edge's turn

module _ (μ : Measure) (exact : (t : Tet) → Exact (μ.score t)) (n F : ℕ) (one : F ≤ units_of one64) (es₀ : List (List ℕ)) where
  -- it keeps all
  pub edge-held : (s : State) (e : Pair) → e.a ≢ e.b → Held μ n F es₀ s → Held μ n F es₀ (try_edge μ s e)
  unfolding try_edge
  edge-held s e ab k = go (eqb (length is) 3) (eqb (length others) 3) refl refl
    where
      a : ℕ
      a = e.a

      b : ℕ
      b = e.b

      σ : List ℕ
      σ = e.a ∷ e.b ∷ []

      is : List ℕ
      is = numbers_with σ s.slots

      all : List ℕ
      all = besides σ (elements_at s.slots is)

      others : List ℕ
      others = unique eqb (sort leb all)

      u : ℕ
      u = get_or others 0 0

      v : ℕ
      v = get_or others 1 0

      w : ℕ
      w = get_or others 2 0

      -- u, v and w are the other vertices
      other-mem : length others ≡ 3 → (x : ℕ) → mem x (u ∷ v ∷ w ∷ []) ≡ mem x all
      other-mem l x = ap (mem x) (sym (three-of others l)) ∙ set-mem x all

      five : length others ≡ 3 → Nodup (a ∷ b ∷ u ∷ v ∷ w ∷ [])
      five l =
          let outside : (x : ℕ) → mem x σ ≡ true → mem x (u ∷ v ∷ w ∷ []) ≡ false = λ x m. nope (λ i. clash m (besides-out σ (elements_at s.slots is) x (sym (other-mem l x) ∙ i))) in (
            out a b (u ∷ v ∷ w ∷ []) ab (outside a (or_left (mem a (b ∷ [])) (eq-eqb a a refl))),
            (outside b (mem-there b a (b ∷ []) (or_left false (eq-eqb b b refl))), three-rise u v w (subst (λ m. ordered (before leb) m ≡ true) (three-of others l) (set-rises all))),
          )

      -- an element with the edge has no further vertex
      around : length others ≡ 3 → (f : List ℕ) → Memᴰ f (elements_of s.slots) → sub σ f ≡ true → Sub f (a ∷ b ∷ u ∷ v ∷ w ∷ [])
      around l f m h x i = elim (split (mem x σ)) [
        | inl q ↦ elim (or_cases (eqb x a) (mem x (b ∷ [])) q) [
          | inl y ↦ or_left (mem x (b ∷ u ∷ v ∷ w ∷ [])) y
          | inr y ↦ or_right (eqb x a) (elim (or_cases (eqb x b) false y) [ inl z ↦ or_left (mem x (u ∷ v ∷ w ∷ [])) z | inr z ↦ absurd (clash z refl) ])
        ]
        | inr q ↦
            let r = mathlib.Core.List.Memᴰ.of_map vertices_of (live s.slots) m in
            let g : has_all σ r.0 ≡ true = subst (λ y. sub σ y ≡ true) (sym r.2) h in
            let o : Memᴰ r.0 (elements_at s.slots is) = subst (Memᴰ r.0) (sym (elements-with σ s.slots)) (kept-intro (has_all σ) (live s.slots) r.1 g) in
            mem-there x a (b ∷ u ∷ v ∷ w ∷ []) (mem-there x b (u ∷ v ∷ w ∷ [])
            (other-mem l x ∙ besides-intro σ (elements_at s.slots is) r.0 x o (subst (λ y. mem x y ≡ true) (sym r.2) i) q))
      ]

      may : length is ≡ 3 → length others ≡ 3 → any (slot_has (u ∷ v ∷ w ∷ [])) s.slots ≡ false → Flippable32 a b u v w (elements_of s.slots)
      may l m h =
          flippable32 a b u v w (five m) n (elements_of s.slots) k.proper (star-owners σ (live s.slots) ∙ sym (length-with σ s.slots) ∙ l) (around m)
          (sym (any-within (u ∷ v ∷ w ∷ []) s.slots) ∙ h)

      last : (x : Bool) → any (slot_has (u ∷ v ∷ w ∷ [])) s.slots ≡ x → (any (slot_has (u ∷ v ∷ w ∷ [])) s.slots ≡ false → Flippable32 a b u v w (elements_of s.slots))
          → Held μ n F es₀ (cond x s (replace μ s is (tet u v w e.a ∷ tet u v w e.b ∷ [])))
      last true h c = k
      last false h c =
          replace-held μ exact n F one es₀ s σ (tet u v w e.a ∷ tet u v w e.b ∷ []) k (flipped32 μ n a b u v w (elements_of s.slots) k.proper k.thin (c h))

      go : (x y : Bool) → eqb (length is) 3 ≡ x → eqb (length others) 3 ≡ y → Held μ n F es₀ (cond (x && y) (three_to_two μ s e is u v w) s)
      go false y g h = k
      go true false g h = k
      go true true g h = last (any (slot_has (u ∷ v ∷ w ∷ [])) s.slots) refl (may (eqb-true (length is) 3 g) (eqb-true (length others) 3 h))

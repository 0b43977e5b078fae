-- Two-to-three: a listed face with exactly two live owners. A turn of `try_faces` is a flip of the live elements, or nothing. Assumes
-- nothing.
use mathlib.Core.Path.{◌≡◌, refl, sym, ap, ap₂, subst, ◌∙◌}
use mathlib.Core.Bool.{Bool, true, false, cond, ◌&&◌}
use mathlib.Core.List.{List, [], ◌∷◌, ◌++◌, map, Memᴰ}
use mathlib.Core.Option.{some}
use Prim.Native.Nat.{ℕ, ◌+◌, ◌≤◌}
use native.Mathlib.Omega.{arith}
use borrow.Author.Tests.{eqb-true}
use lib.Dec.{eqb}
use lib.ListN.{length, get_or}
use Rattle.geometry.specs.Float.{one64}
use Rattle.geometry.specs.Units.{units_of}
use Rattle.mesh.specs.declared.element.Triple.{Triple}
use Rattle.mesh.specs.declared.element.Tet.{Tet}
use Rattle.mesh.specs.Complex.{keep, Nodup}
use Rattle.mesh.specs.Element.{tet, vertices_of, corners_of, has_all}
use Rattle.mesh.specs.Link.{without}
use Rattle.mesh.specs.Measure.{Measure}
use Rattle.mesh.proofs.Laws.Link.Members.{kept-elim}
use Rattle.mesh.specs.Tests.{any}
use Rattle.repair.specs.Wholeness.{Exact}
use Rattle.repair.specs.Flip.{State, slot_has, live, numbers_with, elements_at, emptied, besides, oriented, accepted, replace, two_to_three, try_face}
use Rattle.repair.proofs.Laws.Flip.Slots.{Aged, aged-emptied, aged-append, any-within, elements-with, length-with}
use Rattle.repair.proofs.Laws.Flip.Replace.{Held, elements_of, replace-held}
use Rattle.repair.proofs.Laws.Flip.Owners.{length_without, element-of, flippable23}
use Rattle.repair.proofs.Laws.Flip.Flipped.{flipped23}
use Rattle.repair.proofs.Laws.Flip.StartOwners.{owners-of-start}

-- a list of one, and of two
one_of : (l : List ℕ) → length l ≡ 1 → (c : ℕ) × (l ≡ c ∷ [])
one_of [] h = absurd (omega arith)
one_of (c ∷ []) h = (c, refl)
one_of (c ∷ x ∷ l) h = absurd (omega arith)

two-of : (l : List Tet) → length l ≡ 2 → (s : Tet) × (t : Tet) × (l ≡ s ∷ t ∷ [])
two-of [] h = absurd (omega arith)
two-of (s ∷ []) h = absurd (omega arith)
two-of (s ∷ t ∷ []) h = (s, t, refl)
two-of (s ∷ t ∷ x ∷ l) h = absurd (omega arith)

module _ (μ : Measure) (exact : (t : Tet) → Exact (μ.score t)) (n F : ℕ) (one : F ≤ units_of one64) (es₀ : List (List ℕ)) where
  -- the two owners t₁ and t₂, with their apexes a and b
  module _ (s : State) (f : Triple) (k : Held μ n F es₀ s) (d : Nodup (corners_of f)) where
    owned : (t₁ t₂ : Tet) → keep (has_all (corners_of f)) (live s.slots) ≡ t₁ ∷ t₂ ∷ [] → (a b : ℕ) → without (corners_of f) (vertices_of t₁) ≡ a ∷ [] → without (corners_of f) (vertices_of t₂) ≡ b ∷ []
        → Held μ n F es₀ (two_to_three μ s f (numbers_with (corners_of f) s.slots) a b)
    owned t₁ t₂ two a b apex_a apex_b = go (any (slot_has (a ∷ b ∷ [])) s.slots) refl
      where
        go : (x : Bool) → any (slot_has (a ∷ b ∷ [])) s.slots ≡ x
            → Held μ n F es₀ (cond x s (replace μ s (numbers_with (corners_of f) s.slots) (tet a b f.a f.b ∷ tet a b f.b f.c ∷ tet a b f.c f.a ∷ [])))
        go true h = k
        go false h =
            replace-held μ exact n F one es₀ s (corners_of f) (tet a b f.a f.b ∷ tet a b f.b f.c ∷ tet a b f.c f.a ∷ []) k
            (flipped23 μ n a b f.a f.b f.c (elements_of s.slots) k.proper k.thin
            (flippable23 n f.a f.b f.c (live s.slots) k.proper d t₁ t₂ two a b apex_a apex_b (sym (any-within (a ∷ b ∷ []) s.slots) ∙ h)))

    apex : (t : Tet) → Memᴰ t (keep (has_all (corners_of f)) (live s.slots)) → (c : ℕ) × (without (corners_of f) (vertices_of t) ≡ c ∷ [])
    apex t m =
        let q = kept-elim (has_all (corners_of f)) (live s.slots) m in
        let l = length_without n (corners_of f) (vertices_of t) (element-of n t (live s.slots) k.proper q.0) d q.1 in
        one_of (without (corners_of f) (vertices_of t)) (omega arith)

    apexes : (t₁ t₂ : Tet) → keep (has_all (corners_of f)) (live s.slots) ≡ t₁ ∷ t₂ ∷ [] → (cs : List ℕ)
        → cs ≡ besides (corners_of f) (elements_at s.slots (numbers_with (corners_of f) s.slots)) → (a b : ℕ) → without (corners_of f) (vertices_of t₁) ≡ a ∷ []
        → without (corners_of f) (vertices_of t₂) ≡ b ∷ [] → cs ≡ a ∷ b ∷ []
    unfolding besides
    apexes t₁ t₂ two cs e a b apex_a apex_b = e ∙ ap (besides (corners_of f)) (elements-with (corners_of f) s.slots ∙ two) ∙ ap₂ (λ x y. x ++ (y ++ [])) apex_a apex_b

    two-held : length (numbers_with (corners_of f) s.slots) ≡ 2 → (cs : List ℕ) → cs ≡ besides (corners_of f) (elements_at s.slots (numbers_with (corners_of f) s.slots))
        → Held μ n F es₀ (two_to_three μ s f (numbers_with (corners_of f) s.slots) (get_or cs 0 0) (get_or cs 1 0))
    two-held two cs e = with-owners (two-of (keep (has_all (corners_of f)) (live s.slots)) (sym (length-with (corners_of f) s.slots) ∙ two))
      where
        with-apexes : (t₁ t₂ : Tet) → keep (has_all (corners_of f)) (live s.slots) ≡ t₁ ∷ t₂ ∷ [] → (c : ℕ) × (without (corners_of f) (vertices_of t₁) ≡ c ∷ [])
            → (c : ℕ) × (without (corners_of f) (vertices_of t₂) ≡ c ∷ []) → Held μ n F es₀ (two_to_three μ s f (numbers_with (corners_of f) s.slots) (get_or cs 0 0) (get_or cs 1 0))
        with-apexes t₁ t₂ h (a, p) (b, q) =
            subst (λ l. Held μ n F es₀ (two_to_three μ s f (numbers_with (corners_of f) s.slots) (get_or l 0 0) (get_or l 1 0))) (sym (apexes t₁ t₂ h cs e a b p q)) (owned t₁ t₂ h a b p q)

        with-owners : (t₁ : Tet) × (t₂ : Tet) × (keep (has_all (corners_of f)) (live s.slots) ≡ t₁ ∷ t₂ ∷ [])
            → Held μ n F es₀ (two_to_three μ s f (numbers_with (corners_of f) s.slots) (get_or cs 0 0) (get_or cs 1 0))
        with-owners (t₁, t₂, h) =
            with-apexes t₁ t₂ h (apex t₁ (subst (Memᴰ t₁) (sym h) (Memᴰ.head refl))) (apex t₂ (subst (Memᴰ t₂) (sym h) (Memᴰ.tail (Memᴰ.head refl))))

  -- it keeps all
  pub face-held : (ts : List Tet) (s : State) (f : Triple) → Nodup (corners_of f) → Aged ts s.slots → Held μ n F es₀ s → Held μ n F es₀ (try_face μ ts s f)
  unfolding try_face
  face-held ts s f d aged k = go (eqb (length is) 2) (eqb (length cs) 2) refl refl
    where
      is : List ℕ
      is = numbers_with (corners_of f) (map some ts)

      cs : List ℕ
      cs = besides (corners_of f) (elements_at s.slots is)

      go : (x y : Bool) → eqb (length is) 2 ≡ x → eqb (length cs) 2 ≡ y → Held μ n F es₀ (cond (x && y) (two_to_three μ s f is (get_or cs 0 0) (get_or cs 1 0)) s)
      go false y g h = k
      go true false g h = k
      go true true g h =
          let two : length is ≡ 2 = eqb-true (length is) 2 g in
          let e : is ≡ numbers_with (corners_of f) s.slots = owners-of-start n f.a f.b f.c d ts s.slots aged k.proper k.thin two (eqb-true (length cs) 2 h) in
          subst (λ l. Held μ n F es₀ (two_to_three μ s f l (get_or cs 0 0) (get_or cs 1 0))) (sym e)
          (two-held s f k d (ap length (sym e) ∙ two) cs (ap (λ l. besides (corners_of f) (elements_at s.slots l)) e))

  -- and the numbers of the start
  pub face-aged : (ts : List Tet) (s : State) (f : Triple) → Aged ts s.slots → Aged ts (try_face μ ts s f).slots
  unfolding try_face replace
  face-aged ts s f aged = go (eqb (length is) 2 && eqb (length cs) 2) (any (slot_has (get_or cs 0 0 ∷ get_or cs 1 0 ∷ [])) s.slots) (accepted μ (elements_at s.slots is) new)
    where
      is : List ℕ
      is = numbers_with (corners_of f) (map some ts)

      cs : List ℕ
      cs = besides (corners_of f) (elements_at s.slots is)

      new : List Tet
      new =
          map (oriented μ)
          (tet (get_or cs 0 0) (get_or cs 1 0) f.a f.b ∷ tet (get_or cs 0 0) (get_or cs 1 0) f.b f.c ∷ tet (get_or cs 0 0) (get_or cs 1 0) f.c f.a ∷ [])

      go : (x y z : Bool) → Aged ts (cond x (cond y s (cond z (record { slots = emptied is s.slots ++ map some new; flips = s.flips + 1 }) s)) s).slots
      go false y z = aged
      go true true z = aged
      go true false true = aged-append ts (emptied is s.slots) (map some new) (aged-emptied ts is s.slots aged)
      go true false false = aged

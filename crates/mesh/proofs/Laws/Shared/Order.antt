-- Rows of faces with one key stand in the order of their elements, so that sorting does not move them. Assumes nothing.
use Rattle.std.proofs.Common.{◌≡◌, ℕ, ◌+◌, ◌<◌, ◌≤◌, true, List, [], ◌∷◌, ◌++◌, map, take, sym, refl, ap, ◌∙◌, ap₂, inl, inr, arith, le-ltb, lt-ltb}
use mathlib.Core.List.Memᴰ
use mathlib.Core.List.{Memᴰ}
use Rattle.geometry.specs.declared.point.Point.{Point}
use Rattle.mesh.specs.declared.element.Triple.{Triple}
use Rattle.mesh.specs.declared.element.Tet.{Tet}
use Rattle.mesh.specs.inside.Rows.{le_row}
use Rattle.mesh.specs.Element.{faces_of, key_of, corners_of}
use Rattle.mesh.specs.inside.Group.{same_first}
use Rattle.mesh.proofs.Laws.Rows.{le_row-refl, eq_row-sound}
use Rattle.mesh.proofs.Laws.Manifold.Kept.{Steady, none, more}
use Rattle.mesh.specs.inside.Shared.{owned_row, bad_mark, owned_from}

le-prefix : (a b c : List ℕ) → le_row (a ++ b) (a ++ c) ≡ le_row b c
unfolding le_row
le-prefix [] b c = refl
le-prefix (x ∷ a) b c = simp (le-ltb x x (omega arith)) (le-prefix a b c)

le-number : (i j b c : ℕ) → i < j → le_row (i ∷ b ∷ []) (j ∷ c ∷ []) ≡ true
unfolding le_row
le-number i j b c h = simp (lt-ltb i j h)

-- a row is that of a face of an element numbered j or higher
record Owned (j : ℕ) (y : List ℕ) : Type 0 where
  key : Triple
  number : ℕ
  mark : ℕ
  low : j ≤ number
  is : y ≡ corners_of key ++ (number ∷ mark ∷ [])

-- a row of one element
one-owned : (i b : ℕ) (gs : List Triple) (y : List ℕ) → Memᴰ y (map (owned_row i b) gs) → (k : Triple) × (y ≡ corners_of k ++ (i ∷ b ∷ []))
one-owned i b [] y m = absurd (Memᴰ.not-nil m)
one-owned i b (g ∷ gs) y m = elim (Memᴰ.cases_cons m) [ inl e ↦ (key_of g, e) | inr q ↦ one-owned i b gs y q ]

all-owned : (ps : List Point) (i : ℕ) (ts : List Tet) (y : List ℕ) → Memᴰ y (owned_from ps i ts) → Owned i y
unfolding owned_from
all-owned ps i [] y m = absurd (Memᴰ.not-nil m)
all-owned ps i (t ∷ ts) y m =
    elim (Memᴰ.append_cases (map (owned_row i (bad_mark ps t)) (faces_of t)) m) [
      | inl q ↦ (let r = one-owned i (bad_mark ps t) (faces_of t) y q in record { key = r.0; number = i; mark = bad_mark ps t; low = omega arith; is = r.1 })
      | inr q ↦ (let r = all-owned ps (i + 1) ts y q in let l = r.low in record { key = r.key; number = r.number; mark = r.mark; low = omega arith; is = r.is })
    ]

module _ (q : List ℕ) where
  -- the same key
  same_key : (x y : List ℕ) (f g : Triple) (a b : List ℕ) → x ≡ corners_of f ++ a → y ≡ corners_of g ++ b → same_first 3 q x ≡ true → same_first 3 q y ≡ true → corners_of f ≡ corners_of g
  same_key x y f g a b d e h k =
      sym (eq_row-sound (take 3 q) (corners_of f) (ap (same_first 3 q) (sym d) ∙ h)) ∙ eq_row-sound (take 3 q) (corners_of g) (ap (same_first 3 q) (sym e) ∙ k)

  steady-one : (i b : ℕ) (gs : List Triple) (rest : List (List ℕ)) → ((y : List ℕ) → Memᴰ y rest → Owned (i + 1) y)
      → Steady le_row (same_first 3 q) rest → Steady le_row (same_first 3 q) (map (owned_row i b) gs ++ rest)
  steady-one i b [] rest o s = s
  steady-one i b (g ∷ gs) rest o s =
      more {x = owned_row i b g}
      (λ y m h k. elim (Memᴰ.append_cases (map (owned_row i b) gs) {t = rest} m) [
        | inl p ↦
            let r = one-owned i b gs y p in
            let e = same_key (owned_row i b g) y (key_of g) r.0 (i ∷ b ∷ []) (i ∷ b ∷ []) refl r.1 h k in
            ap₂ le_row (ap (λ (l : List ℕ). l ++ (i ∷ b ∷ [])) e) r.1 ∙ le_row-refl (corners_of r.0 ++ (i ∷ b ∷ []))
        | inr p ↦
            let r = o y p in
            let l = r.low in
            let e = same_key (owned_row i b g) y (key_of g) r.key (i ∷ b ∷ []) (r.number ∷ r.mark ∷ []) refl r.is h k in
            ap₂ le_row (ap (λ (u : List ℕ). u ++ (i ∷ b ∷ [])) e) r.is
            ∙ le-prefix (corners_of r.key) (i ∷ b ∷ []) (r.number ∷ r.mark ∷ []) ∙ le-number i r.number b r.mark (omega arith)
      ])
      (steady-one i b gs rest o s)

  pub steady-owned : (ps : List Point) (i : ℕ) (ts : List Tet) → Steady le_row (same_first 3 q) (owned_from ps i ts)
  unfolding owned_from
  steady-owned ps i [] = none
  steady-owned ps i (t ∷ ts) = steady-one i (bad_mark ps t) (faces_of t) (owned_from ps (i + 1) ts) (λ y m. all-owned ps (i + 1) ts y m) (steady-owned ps (i + 1) ts)

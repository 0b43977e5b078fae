-- Face rows read from an area: the rows at a place, their keys and numbers, and the run that begins there. Assumes nothing.
use Rattle.std.proofs.Common.{◌≡◌, ℕ, zero, suc, ◌+◌, ◌-◌, ◌<◌, ◌≤◌, Bool, true, false, cond, eqb, ◌⊎◌, List, ◌∷◌, get_or, take, drop, sym, refl, ap, ◌∙◌, ap₂, inl, inr, arith, get_or-drop, get_or-take, take-take, drop-drop, eq-eqb, ne_eqb}
use Rattle.mesh.specs.declared.element.Triple.{Triple}
use Rattle.mesh.specs.inside.Rows.{rows, eq_row}
use Rattle.mesh.specs.Element.{parity_of}
use Rattle.mesh.specs.inside.Surface.{face_at, kind, same_key, same_parity, kind_at}
use Rattle.mesh.proofs.Laws.Boundary.Kinds.{kind-other, kind-three, kind-pair, kind-pair-more}

-- the row at p
abbrev pub row_at : List ℕ → ℕ → List ℕ
row_at s p = take 4 (drop p s)

pub rows-one : (s : List ℕ) (p l : ℕ) → rows 4 (suc l) (drop p s) ≡ row_at s p ∷ rows 4 l (drop (p + 4) s)
unfolding rows
rows-one s p l = ap (λ (u : List ℕ). row_at s p ∷ rows 4 l u) (drop-drop 4 p s)

pub rows-two : (s : List ℕ) (p l : ℕ) → rows 4 (suc (suc l)) (drop p s) ≡ row_at s p ∷ row_at s (p + 4) ∷ rows 4 l (drop (p + 8) s)
rows-two s p l =
    let e : p + 4 + 4 ≡ p + 8 = omega arith in
    rows-one s p (suc l) ∙ ap (λ (u : List (List ℕ)). row_at s p ∷ u) (rows-one s (p + 4) l ∙ ap (λ (i : ℕ). row_at s (p + 4) ∷ rows 4 l (drop i s)) e)

pub number_at : (s : List ℕ) (p : ℕ) → get_or (row_at s p) 3 0 ≡ get_or s (p + 3) 0
number_at s p = get_or-take 4 (drop p s) 3 0 (omega arith) ∙ get_or-drop p s 3 0

key-at : (s : List ℕ) (p q : ℕ) → same_key (row_at s p) (row_at s q) ≡ eq_row (take 3 (drop p s)) (take 3 (drop q s))
key-at s p q = ap₂ eq_row (take-take 3 4 (drop p s) (omega arith)) (take-take 3 4 (drop q s) (omega arith))

-- ---- the run at p, where `left` rows are left

module _ (s : List ℕ) (p : ℕ) where
  pub kind-last : (left : ℕ) → left < 2 → 0 ≡ kind_at s (rows 4 left (drop p s))
  unfolding kind_at kind rows
  kind-last zero h = refl
  kind-last (suc zero) h = refl
  kind-last (suc (suc l)) h = absurd (more l h)
    where
      more : (l : ℕ) → suc (suc l) < 2 → ⊥
      more l h = omega arith

  pub kind-single : (left : ℕ) → 2 ≤ left → eq_row (take 3 (drop p s)) (take 3 (drop (p + 4) s)) ≡ false → 0 ≡ kind_at s (rows 4 left (drop p s))
  unfolding kind_at
  kind-single left h e =
      let q : left ≡ suc (suc (left - 2)) = omega arith in
      sym (ap (λ (l : ℕ). kind_at s (rows 4 l (drop p s))) q ∙ ap (kind_at s) (rows-two s p (left - 2)) ∙ kind-other same_key (same_parity s) (row_at s p) (row_at s (p + 4)) (rows 4 (left - 2) (drop (p + 8) s)) (key-at s p (p + 4) ∙ e))

  rows-three : (left : ℕ) → 2 < left → rows 4 left (drop p s) ≡ row_at s p ∷ row_at s (p + 4) ∷ row_at s (p + 8) ∷ rows 4 (left - 3) (drop (p + 8 + 4) s)
  rows-three left h =
      let q : left ≡ suc (suc (suc (left - 3))) = omega arith in
      ap (λ (l : ℕ). rows 4 l (drop p s)) q ∙ rows-two s p (suc (left - 3)) ∙ ap (λ (u : List (List ℕ)). row_at s p ∷ row_at s (p + 4) ∷ u) (rows-one s (p + 8) (left - 3))

  pub kind-many : (left : ℕ) → 2 < left → eq_row (take 3 (drop p s)) (take 3 (drop (p + 4) s)) ≡ true → eq_row (take 3 (drop p s)) (take 3 (drop (p + 8) s)) ≡ true
      → 16 ≡ kind_at s (rows 4 left (drop p s))
  unfolding kind_at
  kind-many left h e f =
      sym (ap (kind_at s) (rows-three left h) ∙ kind-three same_key (same_parity s) (row_at s p) (row_at s (p + 4)) (row_at s (p + 8)) (rows 4 (left - 3) (drop (p + 8 + 4) s)) (key-at s p (p + 4) ∙ e) (key-at s p (p + 8) ∙ f))

  -- no third row with the key
  abbrev NoThird : ℕ → Type 0
  NoThird left = (left ≤ 2) ⊎ ((2 < left) × (eq_row (take 3 (drop p s)) (take 3 (drop (p + 8) s)) ≡ false))

  two-rows : (left : ℕ) → 2 ≤ left → eq_row (take 3 (drop p s)) (take 3 (drop (p + 4) s)) ≡ true → NoThird left
      → kind_at s (rows 4 left (drop p s)) ≡ cond (same_parity s (row_at s p) (row_at s (p + 4))) 17 1
  unfolding kind_at rows
  two-rows left h e (inl m) =
      let q : left ≡ suc (suc zero) = omega arith in
      ap (λ (l : ℕ). kind_at s (rows 4 l (drop p s))) q ∙ ap (kind_at s) (rows-two s p zero) ∙ kind-pair same_key (same_parity s) (row_at s p) (row_at s (p + 4)) (key-at s p (p + 4) ∙ e)
  two-rows left h e (inr m) =
      ap (kind_at s) (rows-three left m.0)
      ∙ kind-pair-more same_key (same_parity s) (row_at s p) (row_at s (p + 4)) (row_at s (p + 8)) (rows 4 (left - 3) (drop (p + 8 + 4) s)) (key-at s p (p + 4) ∙ e) (key-at s p (p + 8) ∙ m.1)

  parity-at : (f g : Triple) → f ≡ face_at s (get_or s (p + 3) 0) → g ≡ face_at s (get_or s (p + 7) 0) → same_parity s (row_at s p) (row_at s (p + 4)) ≡ eqb (parity_of f) (parity_of g)
  parity-at f g e k =
      let q : p + 4 + 3 ≡ p + 7 = omega arith in
      ap₂ (λ (i j : ℕ). eqb (parity_of (face_at s i)) (parity_of (face_at s j))) (number_at s p) (number_at s (p + 4) ∙ ap (λ (i : ℕ). get_or s i 0) q)
      ∙ ap₂ (λ (u v : Triple). eqb (parity_of u) (parity_of v)) (sym e) (sym k)

  module _ (left : ℕ) (h : 2 ≤ left) (e : eq_row (take 3 (drop p s)) (take 3 (drop (p + 4) s)) ≡ true) (no : NoThird left) (f g : Triple) (ef : f ≡ face_at s (get_or s (p + 3) 0)) (eg : g ≡ face_at s (get_or s (p + 7) 0)) (a b : ℕ) (ea : a ≡ parity_of f) (eb : b ≡ parity_of g) where
    tests : same_parity s (row_at s p) (row_at s (p + 4)) ≡ eqb a b
    tests = parity-at f g ef eg ∙ ap₂ eqb (sym ea) (sym eb)

    pub kind-level : a ≡ b → 17 ≡ kind_at s (rows 4 left (drop p s))
    kind-level q = sym (two-rows left h e no ∙ ap (λ (t : Bool). cond t 17 1) (tests ∙ eq-eqb a b q))

    pub kind-good : (a ≡ b → ⊥) → 1 ≡ kind_at s (rows 4 left (drop p s))
    kind-good q = sym (two-rows left h e no ∙ ap (λ (t : Bool). cond t 17 1) (tests ∙ ne_eqb a b q))

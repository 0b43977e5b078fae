-- The faces of elements by their numbers, and their rows: the face with the number m is the m-th of all faces, and only the elements'
-- words are read. Assumes nothing.
use Rattle.std.proofs.Common.{◌≡◌, ℕ, zero, suc, ◌+◌, ◌*◌, ◌/◌, ◌%◌, ◌<◌, Bool, true, ◌&&◌, ltb, List, [], ◌∷◌, map, get_or, take, drop, sym, refl, ap, ◌∙◌, ap₂, arith, get_or-drop, get_or-take, drop-drop, ltb-true}
use Rattle.mesh.specs.declared.element.Tet.{Tet}
use Rattle.mesh.specs.declared.element.Triple.{Triple}
use Rattle.mesh.specs.Words.{word_at, numbers}
use Rattle.mesh.specs.Tests.{every}
use Rattle.mesh.specs.Element.{tet, tets, face_of}
use Rattle.mesh.specs.Boundary.{all_faces}
use Rattle.mesh.specs.inside.Surface.{face_at, face_row, face_rows}
use Rattle.mesh.proofs.Laws.Bools.{and_left, and_right}
use Rattle.mesh.proofs.Laws.NumbersFrom.{numbers-below}
use Rattle.mesh.proofs.Laws.Intake.Reads.{tets-same}

-- ---- maps

pub every_map : {A B : Type 0} (h : A → B) (p : B → Bool) (l : List A) → every p (map h l) ≡ every (λ x. p (h x)) l
every_map h p [] = refl
every_map h p (x ∷ l) = ap (λ (t : Bool). p (h x) && t) (every_map h p l)

-- two functions that agree where a test passes, on a list whose elements pass
pub map-known : {A B : Type 0} (p : A → Bool) (g h : A → B) → ((x : A) → p x ≡ true → g x ≡ h x) → (l : List A) → every p l ≡ true → map g l ≡ map h l
map-known p g h e [] k = refl
map-known {A} {B} p g h e (x ∷ l) k = ap₂ (λ (u : B) (v : List B). u ∷ v) (e x (and_left (p x) (every p l) k)) (map-known p g h e l (and_right (p x) (every p l) k))

-- ---- the face with a number

module _ (s : List ℕ) where
  -- the element e
  abbrev element_at : ℕ → Tet
  element_at i = tet (word_at s i) (word_at s (i + 1)) (word_at s (i + 2)) (word_at s (i + 3))

  face-at : (e k : ℕ) → k < 4 → face_at s (4 * e + k) ≡ face_of (element_at (4 * e)) k
  unfolding face_at
  face-at e k h =
      let p : (4 * e + k) / 4 * 4 ≡ 4 * e = omega arith in
      let q : (4 * e + k) % 4 ≡ k = omega arith in
      ap₂ (λ (u v : ℕ). face_of (element_at u) v) p q

  tets-from : (e n : ℕ) → tets (suc n) (drop (4 * e) s) ≡ element_at (4 * e) ∷ tets n (drop (4 * suc e) s)
  unfolding tets
  tets-from e n =
      let p : 4 * e + 0 ≡ 4 * e = omega arith in
      let q : 4 * e + 4 ≡ 4 * suc e = omega arith in
      simp (get_or-drop (4 * e) s, p, drop-drop 4 (4 * e) s, q)

  four-numbers : (e n : ℕ) → numbers (4 * e) (4 * suc n) ≡ (4 * e + 0) ∷ (4 * e + 1) ∷ (4 * e + 2) ∷ (4 * e + 3) ∷ numbers (4 * suc e) (4 * n)
  unfolding numbers
  four-numbers e n =
      let p : 4 * suc n ≡ suc (suc (suc (suc (4 * n)))) = omega arith in
      let a : 4 * e ≡ 4 * e + 0 = omega arith in
      let c : 4 * e + 1 + 1 ≡ 4 * e + 2 = omega arith in
      let d : 4 * e + 1 + 1 + 1 ≡ 4 * e + 3 = omega arith in
      let f : 4 * e + 1 + 1 + 1 + 1 ≡ 4 * suc e = omega arith in
      ap (numbers (4 * e)) p ∙ cc

  faces-from : (e n : ℕ) → map (face_at s) (numbers (4 * e) (4 * n)) ≡ all_faces (tets n (drop (4 * e) s))
  unfolding numbers tets all_faces
  faces-from e zero = refl
  faces-from e (suc n) =
      ap (map (face_at s)) (four-numbers e n)
      ∙ four (face-at e 0 (omega arith)) (face-at e 1 (omega arith)) (face-at e 2 (omega arith)) (face-at e 3 (omega arith)) (faces-from (suc e) n)
      ∙ sym (ap all_faces (tets-from e n))
    where
      four : {a b c d a' b' c' d' : Triple} {u v : List Triple} → a ≡ a' → b ≡ b' → c ≡ c' → d ≡ d' → u ≡ v → a ∷ b ∷ c ∷ d ∷ u ≡ a' ∷ b' ∷ c' ∷ d' ∷ v
      four p q r t w = cc

  -- all faces, by their numbers
  pub faces-are : (n : ℕ) → map (face_at s) (numbers 0 (4 * n)) ≡ all_faces (tets n s)
  faces-are n = faces-from 0 n

-- ---- only the elements' words are read

module _ (n : ℕ) (s t : List ℕ) (e : take (4 * n) s ≡ take (4 * n) t) where
  word_kept : (i : ℕ) → i < 4 * n → word_at s i ≡ word_at t i
  word_kept i h = sym (get_or-take (4 * n) s i 0 h) ∙ ap (λ (u : List ℕ). get_or u i 0) e ∙ get_or-take (4 * n) t i 0 h

  pub face-kept : (m : ℕ) → m < 4 * n → face_at s m ≡ face_at t m
  unfolding face_at
  face-kept m h =
      let a = word_kept (m / 4 * 4) (omega arith) in
      let b = word_kept (m / 4 * 4 + 1) (omega arith) in
      let c = word_kept (m / 4 * 4 + 2) (omega arith) in
      let d = word_kept (m / 4 * 4 + 3) (omega arith) in
      ap (λ (u : Tet). face_of u (m % 4)) (cc)

  face-rows : (m : ℕ) → ltb m (4 * n) ≡ true → face_row (face_at s m) m ≡ face_row (face_at t m) m
  face-rows m h = ap (λ (f : Triple). face_row f m) (face-kept m (ltb-true m (4 * n) h))

  pub rows-kept : face_rows n s ≡ face_rows n t
  unfolding face_rows
  rows-kept = map-known (λ m. ltb m (4 * n)) (λ m. face_row (face_at s m) m) (λ m. face_row (face_at t m) m) face-rows (numbers 0 (4 * n)) (numbers-below 0 (4 * n) (4 * n) (omega arith))

  pub tets-kept : tets n s ≡ tets n t
  tets-kept = tets-same n t s word_kept

-- The rows of faces with their elements: those of one key are its owners, in their order, with a mark where one is bad. Assumes nothing.
use Rattle.std.proofs.Common.{◌≡◌, ℕ, suc, ◌+◌, ◌<◌, Bool, true, false, cond, not, ◌&&◌, ◌||◌, eqb, List, [], ◌∷◌, ◌++◌, map, length, get_or, take, sym, refl, ap, ◌∙◌, ap₂, inl, inr, arith, get_or-take, ne_eqb}
use mathlib.Core.List.{map-append}
use Rattle.geometry.specs.declared.point.Point.{Point}
use Rattle.mesh.specs.declared.element.Triple.{Triple}
use Rattle.mesh.specs.declared.element.Tet.{Tet}
use Rattle.mesh.specs.inside.Sort.{elem}
use Rattle.mesh.specs.inside.Rows.{eq_row}
use Rattle.mesh.specs.Complex.{keep}
use Rattle.mesh.specs.Tests.{every}
use Rattle.mesh.specs.Element.{faces_of, key_of, corners_of}
use Rattle.mesh.specs.Boundary.{same_triple, all_faces}
use Rattle.mesh.specs.inside.List.{bad_in}
use Rattle.mesh.proofs.Laws.Bools.{split, and_left}
use Rattle.mesh.proofs.Laws.Rows.{eq_row-sound}
use Rattle.mesh.proofs.Laws.Boundary.Same.{keep_same, keep-map}
use Rattle.mesh.proofs.Laws.Boundary.Order.{eq-corners}
use Rattle.mesh.proofs.Laws.Group.Images.{map-map}
use Rattle.mesh.proofs.Laws.List.Push.{keep_append}
use Rattle.mesh.specs.inside.Shared.{owners_from, owned_row, bad_mark, owned_from, run_row}

-- ---- lists

every_append : {A : Type 0} (p : A → Bool) (l m : List A) → every p (l ++ m) ≡ (every p l && every p m)
every_append p [] m = refl
every_append p (x ∷ l) m = let ih = every_append p l m in elim (split (p x)) [ inl e ↦ rw e ih | inr e ↦ rw e refl ]

pub elem-append : {A : Type 0} (eq : A → A → Bool) (z : A) (l m : List A) → elem eq z (l ++ m) ≡ (elem eq z l || elem eq z m)
unfolding elem
elem-append eq z [] m = refl
elem-append eq z (x ∷ l) m = let ih = elem-append eq z l m in elim (split (eq z x)) [ inl e ↦ rw e refl | inr e ↦ rw e ih ]

neither : (a b : Bool) → (not a && not b) ≡ not (a || b)
neither true b = refl
neither false b = refl

-- ---- the rows of one key

-- is it a row with the key f
abbrev pub of_key : Triple → List ℕ → Bool
of_key f q = eq_row (corners_of f) (take 3 q)

-- the number of a row's element
abbrev pub owner_in : List ℕ → ℕ
owner_in r = get_or r 3 0

-- is it no row of a bad element
abbrev pub unmarked : List ℕ → Bool
unmarked r = eqb (get_or r 4 0) 0

module _ (f : Triple) where
  -- of one element
  kept-one : (i b : ℕ) (gs : List Triple) → keep (of_key f) (map (owned_row i b) gs) ≡ map (owned_row i b) (keep (λ g. same_triple f (key_of g)) gs)
  kept-one i b gs =
      keep-map (owned_row i b) (of_key f) gs
      ∙ ap (map (owned_row i b)) (keep_same (λ g. of_key f (owned_row i b g)) (λ g. same_triple f (key_of g)) (λ g. eq-corners f (key_of g)) gs)

  kept_more : (ps : List Point) (i : ℕ) (t : Tet) (ts : List Tet) → keep (of_key f) (owned_from ps i (t ∷ ts))
      ≡ map (owned_row i (bad_mark ps t)) (keep (λ g. same_triple f (key_of g)) (faces_of t)) ++ keep (of_key f) (owned_from ps (i + 1) ts)
  unfolding owned_from
  kept_more ps i t ts =
      let b = bad_mark ps t in
      keep_append (of_key f) (map (owned_row i b) (faces_of t)) (owned_from ps (i + 1) ts)
      ∙ ap (λ (l : List (List ℕ)). l ++ keep (of_key f) (owned_from ps (i + 1) ts)) (kept-one i b (faces_of t))

  -- their elements are the owners
  pub owners-kept : (ps : List Point) (i : ℕ) (ts : List Tet) → map owner_in (keep (of_key f) (owned_from ps i ts)) ≡ owners_from i f ts
  unfolding owned_from owners_from
  owners-kept ps i [] = refl
  owners-kept ps i (t ∷ ts) =
      let b = bad_mark ps t in
      let gs = keep (λ g. same_triple f (key_of g)) (faces_of t) in
      let rest = keep (of_key f) (owned_from ps (i + 1) ts) in
      ap (map owner_in) (kept_more ps i t ts)
      ∙ map-append owner_in (map (owned_row i b) gs) rest
      ∙ ap₂ (λ (l m : List ℕ). l ++ m)
      (map-map owner_in (owned_row i b) gs ∙ sym (map-map (λ (g : Triple). i) key_of gs) ∙ ap (map (λ (g : Triple). i)) (sym (keep-map key_of (same_triple f) (faces_of t))))
      (owners-kept ps (i + 1) ts)

  -- the marks of one element
  marks-bad : (i : ℕ) (gs : List Triple) → every unmarked (map (owned_row i 1) (keep (λ g. same_triple f (key_of g)) gs)) ≡ not (elem same_triple f (map key_of gs))
  unfolding elem
  marks-bad i [] = refl
  marks-bad i (g ∷ gs) = let ih = marks-bad i gs in elim (split (same_triple f (key_of g))) [ inl e ↦ rw e refl | inr e ↦ rw e ih ]

  marks-good : (i : ℕ) (gs : List Triple) → every unmarked (map (owned_row i 0) gs) ≡ true
  marks-good i [] = refl
  marks-good i (g ∷ gs) = marks-good i gs

  -- none is marked where no bad element has the key
  pub marks-kept : (ps : List Point) (i : ℕ) (ts : List Tet) → every unmarked (keep (of_key f) (owned_from ps i ts)) ≡ not (elem same_triple f (map key_of (all_faces (keep (bad_in ps) ts))))
  unfolding owned_from elem all_faces
  marks-kept ps i [] = refl
  marks-kept ps i (t ∷ ts) =
      let gs = keep (λ g. same_triple f (key_of g)) (faces_of t) in
      let ks = map key_of (all_faces (keep (bad_in ps) ts)) in
      let ih = marks-kept ps (i + 1) ts in
      ap (every unmarked) (kept_more ps i t ts)
      ∙ every_append unmarked (map (owned_row i (bad_mark ps t)) gs) (keep (of_key f) (owned_from ps (i + 1) ts))
      ∙ ap (λ (b : Bool). every unmarked (map (owned_row i (bad_mark ps t)) gs) && b) ih
      ∙ elim (split (bad_in ps t)) [
        | inl e ↦ rw e (ap (λ (b : Bool). b && not (elem same_triple f ks)) (marks-bad i (faces_of t)) ∙ neither (elem same_triple f (map key_of (faces_of t))) (elem same_triple f ks) ∙ ap not (sym (ap (elem same_triple f) (map-append key_of (faces_of t) (all_faces (keep (bad_in ps) ts))) ∙ elem-append same_triple f (map key_of (faces_of t)) ks)))
        | inr e ↦ rw e (ap (λ (b : Bool). b && not (elem same_triple f ks)) (marks-good i gs))
      ]

  -- ---- what a run of the key gives

  word_of : (r : List ℕ) (k : ℕ) → k < 3 → of_key f r ≡ true → get_or r k 0 ≡ get_or (corners_of f) k 0
  word_of r k h e = sym (get_or-take 3 r k 0 h) ∙ ap (λ (l : List ℕ). get_or l k 0) (sym (eq_row-sound (corners_of f) (take 3 r) e))

  pub run-gives : (g : List (List ℕ)) → every (of_key f) g ≡ true
      → run_row g ≡ cond (eqb (length (map owner_in g)) 2 && not (every unmarked g)) ((corners_of f ++ map owner_in g) ∷ []) []
  unfolding run_row
  run-gives [] h = refl
  run-gives (x ∷ []) h = refl
  run-gives (x ∷ y ∷ []) h =
      let e = and_left (of_key f x) (of_key f y && true) h in
      ap₂ (λ (b : Bool) (l : List ℕ). cond (not (unmarked x && b)) ((l ++ (owner_in x ∷ owner_in y ∷ [])) ∷ []) [])
      (last (unmarked y))
      (three (word_of x 0 (omega arith) e) (word_of x 1 (omega arith) e) (word_of x 2 (omega arith) e))
    where
      last : (b : Bool) → b ≡ (b && true)
      last true = refl
      last false = refl

      three : {a b c a' b' c' : ℕ} → a ≡ a' → b ≡ b' → c ≡ c' → a ∷ b ∷ c ∷ [] ≡ a' ∷ b' ∷ c' ∷ []
      three {a} {b} {c} {a'} {b'} {c'} p q r = rw (p, q, r) refl
  run-gives (x ∷ y ∷ z ∷ g) h = rw (many (length g), many (length (map owner_in g))) refl
    where
      many : (n : ℕ) → eqb (suc (suc (suc n))) 2 ≡ false
      many n = ne_eqb (suc (suc (suc n))) 2 (λ e. omega arith)

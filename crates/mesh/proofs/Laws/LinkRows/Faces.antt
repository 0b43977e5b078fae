-- The faces with a or b whose key stands alone among the sorted keys are the boundary faces about the edge. Assumes nothing.
use Rattle.std.proofs.Common.{◌≡◌, ℕ, suc, ◌<◌, Bool, true, false, cond, not, ◌&&◌, ◌||◌, eqb, ltb, List, [], ◌∷◌, ◌++◌, map, length, get_or, take, sym, refl, ap, ◌∙◌, subst, inl, inr, arith, get_or-take, ne_eqb}
use mathlib.Core.Bool.{and-true}
use mathlib.Core.List.{Memᴰ}
use Rattle.mesh.specs.declared.element.Tet.{Tet}
use Rattle.mesh.specs.declared.element.Triple.{Triple}
use Rattle.mesh.specs.Sort.{sort}
use Rattle.mesh.specs.inside.Rows.{le_row, eq_row}
use Rattle.mesh.specs.Complex.{mem, keep}
use Rattle.mesh.specs.Tests.{every}
use Rattle.mesh.specs.Sets.{among, times}
use Rattle.mesh.specs.Element.{key_of, corners_of}
use Rattle.mesh.specs.Boundary.{same_triple, all_faces}
use Rattle.mesh.specs.Link.{keys_about, boundary_about}
use Rattle.mesh.specs.inside.Group.{runs, same_first}
use Rattle.mesh.specs.inside.LinkRows.{mark, face_in, alone_about, run_faces, faces_alone, alone_faces}
use Rattle.mesh.proofs.Laws.Complex.Sets.{split, clash, nope, and-fst, and-snd}
use Rattle.mesh.proofs.Laws.Rows.{eq_row-sound}
use Rattle.mesh.proofs.Laws.Manifold.RowRuns.{every-run, every-same, kept-number}
use Rattle.mesh.proofs.Laws.Link.Members.{kept-elim, kept-intro, keep_same, every-elim, among-elim, among-intro}
use Rattle.mesh.proofs.Laws.Link.Keys.{triple-decides}
use Rattle.mesh.proofs.Laws.Link.Boundary.{times-keep}
use Rattle.mesh.proofs.Laws.Boundary.Same.{keep-map}
use Rattle.mesh.proofs.Laws.Boundary.Faces.{every_map}
use Rattle.mesh.proofs.Laws.List.Meaning.{spread-faces}

-- ---- the faces of all runs

-- a mark above 0 is an end of the edge
pub about-mark : (a b : ℕ) (τ : List ℕ) → (mem a τ || mem b τ) ≡ ltb 0 (mark a b τ)
about-mark a b τ = go (mem a τ) (mem b τ)
  where
    go : (p q : Bool) → (p || q) ≡ ltb 0 (cond p (cond q 3 1) (cond q 2 0))
    go true true = refl
    go true false = refl
    go false true = refl
    go false false = refl

module _ (a b : ℕ) where
  -- not among the faces of a run
  abbrev lacks : Triple → List (List ℕ) → Bool
  lacks f g = not (among same_triple f (run_faces a b g))

  among-append : (f : Triple) (xs ys : List Triple) → among same_triple f (xs ++ ys) ≡ (among same_triple f xs || among same_triple f ys)
  among-append f [] ys = refl
  among-append f (x ∷ xs) ys = ap (λ (p : Bool). same_triple f x || p) (among-append f xs ys) ∙ sym (assoc (same_triple f x) (among same_triple f xs) (among same_triple f ys))
    where
      assoc : (p q r : Bool) → ((p || q) || r) ≡ (p || (q || r))
      assoc true q r = refl
      assoc false q r = refl

  alone_among : (f : Triple) (gs : List (List (List ℕ))) → among same_triple f (faces_alone a b gs) ≡ not (every (lacks f) gs)
  unfolding faces_alone
  alone_among f [] = refl
  alone_among f (g ∷ gs) =
      among-append f (run_faces a b g) (faces_alone a b gs) ∙ ap (λ (p : Bool). among same_triple f (run_faces a b g) || p) (alone_among f gs)
      ∙ turn (among same_triple f (run_faces a b g)) (every (lacks f) gs)
    where
      turn : (p q : Bool) → (p || not q) ≡ not (not p && q)
      turn true q = refl
      turn false q = refl

  -- the faces of a run whose rows are all of the face k
  run-faces : (k : Triple) (g : List (List ℕ)) → ((x : List ℕ) → Memᴰ x g → face_in x ≡ k) → run_faces a b g ≡ cond (alone_about a b (length g) k) (k ∷ []) []
  run-faces k [] h = refl
  run-faces k (x ∷ []) h = ap (λ (f : Triple). cond (alone_about a b 1 f) (f ∷ []) []) (h x (Memᴰ.head refl))
  run-faces k (x ∷ y ∷ g) h = let e : eqb (suc (suc (length g))) 1 ≡ false = ne_eqb (suc (suc (length g))) 1 (λ q. omega arith) in rw e refl

-- the same first three words are the same face
face-of-words : (x y : List ℕ) → take 3 x ≡ take 3 y → face_in x ≡ face_in y
face-of-words x y e = rw (at 0 (omega arith), at 1 (omega arith), at 2 (omega arith)) refl
  where
    at : (i : ℕ) → i < 3 → get_or x i 0 ≡ get_or y i 0
    at i h = sym (get_or-take 3 x i 0 h) ∙ ap (λ (l : List ℕ). get_or l i 0) e ∙ get_or-take 3 y i 0 h

words-face : (k f : Triple) → same_first 3 (corners_of k) (corners_of f) ≡ same_triple k f
unfolding eq_row
words-face k f = ap (λ (p : Bool). eqb k.a f.a && (eqb k.b f.b && p)) (and-true (eqb k.c f.c))

module _ (a b : ℕ) (ks : List Triple) where
  abbrev S : List (List ℕ)
  S = sort le_row (map corners_of ks)

  -- the run of a key
  key-run : (k : Triple) → run_faces a b (keep (same_first 3 (corners_of k)) (sort le_row (map corners_of ks))) ≡ cond (alone_about a b (times same_triple k ks) k) (k ∷ []) []
  key-run k =
      run-faces a b k (keep (same_first 3 (corners_of k)) S) (λ x m. sym (face-of-words (corners_of k) x (eq_row-sound (take 3 (corners_of k)) (take 3 x) (kept-elim (same_first 3 (corners_of k)) S m).1)))
      ∙ ap (λ (n : ℕ). cond (alone_about a b n k) (k ∷ []) []) number
    where
      number : length (keep (same_first 3 (corners_of k)) S) ≡ times same_triple k ks
      number =
          kept-number 3 (corners_of k) (map corners_of ks)
          ∙ ap length (keep-map corners_of (same_first 3 (corners_of k)) ks)
          ∙ length-map (keep (λ f. same_first 3 (corners_of k) (corners_of f)) ks)
          ∙ ap length (keep_same (λ f. same_first 3 (corners_of k) (corners_of f)) (same_triple k) ks (words-face k))
        where
          length-map : (l : List Triple) → length (map corners_of l) ≡ length l
          length-map [] = refl
          length-map (x ∷ l) = ap suc (length-map l)

  -- a face of a run is a key that stands there once, with a or b
  alone-keys : (f : Triple) → among same_triple f (faces_alone a b (runs (same_first 3) (sort le_row (map corners_of ks)))) ≡ not (every (λ k. not (among same_triple f (cond (alone_about a b (times same_triple k ks) k) (k ∷ []) []))) ks)
  alone-keys f =
      alone_among a b f (runs (same_first 3) S)
      ∙ ap not
      (every-run 3 (lacks a b f) (map corners_of ks)
      ∙ every_map corners_of (λ r. lacks a b f (keep (same_first 3 r) S)) ks
      ∙ every-same (λ k. lacks a b f (keep (same_first 3 (corners_of k)) S)) (λ k. not (among same_triple f (cond (alone_about a b (times same_triple k ks) k) (k ∷ []) []))) ks
      (λ k. ap (λ (l : List Triple). not (among same_triple f l)) (key-run k)))

module _ (a b : ℕ) (ts : List Tet) where
  abbrev here : Triple → Triple → Bool
  here f k = among same_triple f (cond (alone_about a b (times same_triple k (map key_of (all_faces ts))) k) (k ∷ []) [])

  alone-is : (f : Triple) → among same_triple f (alone_faces a b ts) ≡ not (every (λ k. not (here f k)) (map key_of (all_faces ts)))
  unfolding alone_faces
  alone-is f = ap (λ (l : List (List ℕ)). among same_triple f (faces_alone a b (runs (same_first 3) (sort le_row l)))) (spread-faces ts) ∙ alone-keys a b (map key_of (all_faces ts)) f

  -- the keys about the edge, as often as all keys
  times-about : (f : Triple) → (mem a (corners_of f) || mem b (corners_of f)) ≡ true → times same_triple f (keys_about a b ts) ≡ times same_triple f (map key_of (all_faces ts))
  unfolding keys_about
  times-about f h = times-keep same_triple triple-decides (λ g. mem a (corners_of g) || mem b (corners_of g)) f (map key_of (all_faces ts)) ∙ rw h refl

  -- the faces alone are the boundary faces
  pub alone-elim : (f : Triple) → Memᴰ f (alone_faces a b ts) → Memᴰ f (boundary_about a b ts)
  unfolding boundary_about keys_about
  alone-elim f m =
      let h : not (every (λ k. not (here f k)) (map key_of (all_faces ts))) ≡ true = sym (alone-is f) ∙ among-intro same_triple triple-decides (alone_faces a b ts) m in
      let r = found (map key_of (all_faces ts)) h in
      let e : f ≡ r.0 = r.3 in
      let about : (mem a (corners_of r.0) || mem b (corners_of r.0)) ≡ true = about-mark a b (corners_of r.0) ∙ and-snd (eqb (times same_triple r.0 (map key_of (all_faces ts))) 1) (ltb 0 (mark a b (corners_of r.0))) r.2 in
      subst (λ (g : Triple). Memᴰ g (boundary_about a b ts)) (sym e)
      (kept-intro (λ g. eqb (times same_triple g (keys_about a b ts)) 1) (keys_about a b ts) (kept-intro (λ g. mem a (corners_of g) || mem b (corners_of g)) (map key_of (all_faces ts)) r.1 about)
      (ap (λ (n : ℕ). eqb n 1) (times-about r.0 about) ∙ and-fst (eqb (times same_triple r.0 (map key_of (all_faces ts))) 1) (ltb 0 (mark a b (corners_of r.0))) r.2))
    where
      found : (l : List Triple) → not (every (λ k. not (here f k)) l) ≡ true → (k : Triple) × Memᴰ k l × (alone_about a b (times same_triple k (map key_of (all_faces ts))) k ≡ true) × (f ≡ k)
      found [] h = absurd (clash h refl)
      found (k ∷ l) h =
          elim (split (alone_about a b (times same_triple k (map key_of (all_faces ts))) k)) [
            | inl q ↦ elim (split (same_triple f k)) [
              | inl e ↦ (k, Memᴰ.head refl, q, triple-decides.equal f k e)
              | inr e ↦ let r = found l (rw (q, e) at h) in (r.0, Memᴰ.tail r.1, r.2, r.3)
            ]
            | inr q ↦ let r = found l (rw q at h) in (r.0, Memᴰ.tail r.1, r.2, r.3)
          ]

  pub alone-intro : (f : Triple) → Memᴰ f (boundary_about a b ts) → Memᴰ f (alone_faces a b ts)
  unfolding boundary_about keys_about
  alone-intro f m =
      let r = kept-elim (λ g. eqb (times same_triple g (keys_about a b ts)) 1) (keys_about a b ts) m in
      let k = kept-elim (λ g. mem a (corners_of g) || mem b (corners_of g)) (map key_of (all_faces ts)) r.0 in
      let one : eqb (times same_triple f (map key_of (all_faces ts))) 1 ≡ true = ap (λ (n : ℕ). eqb n 1) (sym (times-about f k.1)) ∙ r.1 in
      let two : ltb 0 (mark a b (corners_of f)) ≡ true = sym (about-mark a b (corners_of f)) ∙ k.1 in
      let q : here f f ≡ true = rw (one, two, triple-decides.self f) refl in
      among-elim same_triple triple-decides (alone_faces a b ts)
      (alone-is f ∙ ap not (nope (λ h. clash q (no (here f f) (every-elim (λ k. not (here f k)) (map key_of (all_faces ts)) h k.0)))))
    where
      no : (p : Bool) → not p ≡ true → p ≡ false
      no true e = sym e
      no false e = refl

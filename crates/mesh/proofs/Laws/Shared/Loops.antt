-- The loops that list the rows of faces: over the faces of an element, and over the elements. Assumes nothing.
use Rattle.std.proofs.Common.{◌≡◌, ℕ, suc, ◌+◌, ◌*◌, ◌<◌, ◌≤◌, List, [], ◌∷◌, ◌++◌, map, length, take, sym, refl, ap, ◌∙◌, subst, ap₂, append_assoc, append-nil, add-one, arith, length-take-le, take_all, take-suc}
use lib.Seq.{paste}
use Rattle.geometry.specs.declared.point.Point.{Point}
use Rattle.mesh.specs.declared.element.Triple.{Triple}
use Rattle.mesh.specs.declared.element.Tet.{Tet}
use Rattle.mesh.specs.Element.{tet, tets, faces_of, face_of, key_of, corners_of}
use Rattle.mesh.specs.inside.Intake.{tet_at}
use Rattle.mesh.specs.Words.{numbers}
use Rattle.mesh.specs.inside.Manifold.{filled, KeptBelow}
use Rattle.mesh.specs.inside.List.{stacked, Pushed}
use Rattle.mesh.proofs.Laws.Rows.{Shape, none, more}
use Rattle.mesh.proofs.Laws.Manifold.Fill.{fill_start, fill-turn}
use Rattle.mesh.proofs.Laws.Intake.Reads.{length-tets, tets-at}
use Rattle.mesh.proofs.Laws.Euler.Areas.{tet-kept}
use Rattle.mesh.proofs.Laws.List.Push.{push-start, push_kept, push-more, shape-append}
use Rattle.mesh.specs.inside.Shared.{owned_row, bad_mark, owned_from}

-- ---- the faces of an element

-- the rows of its first k faces are written
pub record Faces (i mark : ℕ) (t : Tet) (p : ℕ) (s₀ s : List ℕ) (k : ℕ) : Type 0 where
  pub bound : k ≤ 4
  pub area : s ≡ filled (λ j. owned_row i mark (face_of t j)) 5 p k s₀

module _ (i mark : ℕ) (t : Tet) (p : ℕ) (s₀ : List ℕ) (room : p + 20 ≤ length s₀) where
  pub faces-start : Faces i mark t p s₀ s₀ 0
  faces-start = record { bound = omega arith; area = fill_start (λ j. owned_row i mark (face_of t j)) 5 (λ j. refl) p s₀ (omega arith) }

  module _ {s : List ℕ} {k : ℕ} (g : Faces i mark t p s₀ s k) where
    pub faces-turn : k < 4 → {f h : Triple} → f ≡ face_of t k → h ≡ key_of f → (s' : List ℕ) → s' ≡ paste s (p + 5 * k) (h.a ∷ h.b ∷ h.c ∷ i ∷ mark ∷ []) 5 → Faces i mark t p s₀ s' (k + 1)
    faces-turn l {f} {h} e q s' r = record {
      bound = omega arith;
      area =
          fill-turn (λ j. owned_row i mark (face_of t j)) 5 (λ j. refl) p s₀ (omega arith) k s s' (h.a ∷ h.b ∷ h.c ∷ i ∷ mark ∷ []) (omega arith) g.area
          (ap (λ (u : Triple). corners_of u ++ (i ∷ mark ∷ [])) (q ∙ ap key_of e)) r;
    }

  pub faces-end : {s : List ℕ} {k : ℕ} → Faces i mark t p s₀ s k → 4 ≤ k → Pushed (map (owned_row i mark) (faces_of t)) 5 p s₀ s 4
  unfolding filled stacked numbers
  faces-end {s} {k} g h = record { number = refl; area = g.area ∙ ap (λ (u : ℕ). filled (λ j. owned_row i mark (face_of t j)) 5 p u s₀) (let e : k ≡ 4 = omega (arith, g.bound) in e) }

-- ---- the elements

module _ (ps : List Point) where
  shape_one : (i b : ℕ) (gs : List Triple) → Shape 5 (length (map (owned_row i b) gs)) (map (owned_row i b) gs)
  shape_one i b [] = none
  shape_one i b (g ∷ gs) = more refl (shape_one i b gs)

  pub shape-owned : (i : ℕ) (ts : List Tet) → Shape 5 (length (owned_from ps i ts)) (owned_from ps i ts)
  unfolding owned_from
  shape-owned i [] = none
  shape-owned i (t ∷ ts) = shape-append (map (owned_row i (bad_mark ps t)) (faces_of t)) (owned_from ps (i + 1) ts) (shape_one i (bad_mark ps t) (faces_of t)) (shape-owned (i + 1) ts)

  no-owned : [] ≡ owned_from ps 0 []
  unfolding owned_from
  no-owned = refl

  owned-append : (i : ℕ) (l : List Tet) (t : Tet) → owned_from ps i (l ++ (t ∷ [])) ≡ owned_from ps i l ++ map (owned_row (i + length l) (bad_mark ps t)) (faces_of t)
  unfolding owned_from
  owned-append i [] t =
      let e : i ≡ i + 0 = omega arith in
      append-nil (map (owned_row i (bad_mark ps t)) (faces_of t)) ∙ ap (λ (u : ℕ). map (owned_row u (bad_mark ps t)) (faces_of t)) e
  owned-append i (x ∷ l) t =
      let e : i + 1 + length l ≡ i + suc (length l) = omega arith in
      let a = map (owned_row i (bad_mark ps x)) (faces_of x) in
      ap (λ (u : List (List ℕ)). a ++ u) (owned-append (i + 1) l t ∙ ap (λ (u : ℕ). owned_from ps (i + 1) l ++ map (owned_row u (bad_mark ps t)) (faces_of t)) e)
      ∙ sym (append_assoc a (owned_from ps (i + 1) l) (map (owned_row (i + suc (length l)) (bad_mark ps t)) (faces_of t)))

  -- the rows of the first i elements are written
  pub record Owning (n : ℕ) (s₀ s : List ℕ) (i : ℕ) : Type 0 where
    pub bound : i ≤ n
    pub pushed : Pushed (owned_from ps 0 (take i (tets n s₀))) 5 (4 * n) s₀ s (4 * i)

  module _ (n : ℕ) (s₀ : List ℕ) (room : 44 * n ≤ length s₀) where
    pub owning-start : Owning n s₀ s₀ 0
    owning-start = record { bound = omega arith; pushed = subst (λ (l : List (List ℕ)). Pushed l 5 (4 * n) s₀ s₀ 0) no-owned (push-start 5 (4 * n) s₀) }

    module _ {s : List ℕ} {i : ℕ} (g : Owning n s₀ s i) where
      pub owning-kept : KeptBelow (4 * n) s₀ s
      owning-kept = push_kept (shape-owned 0 (take i (tets n s₀))) (omega arith) g.pushed (omega (arith, g.bound))

      pub owning-turn : i < n → {t : Tet} {b : ℕ} {s' : List ℕ} → t ≡ tet_at s i → b ≡ bad_mark ps t → Pushed (map (owned_row i b) (faces_of t)) 5 (4 * n + 20 * i) s s' 4 → Owning n s₀ s' (i + 1)
      owning-turn h {t} {b} {s'} e f r =
          let l = take i (tets n s₀) in
          let at : 4 * n + 20 * i ≡ 4 * n + 5 * (4 * i) = omega arith in
          let many : 4 * i + 4 ≡ 4 * (i + 1) = omega arith in
          let long : i ≡ 0 + length l = (let q = length-take-le i (tets n s₀) (omega (arith, length-tets n s₀)) in omega arith) in
          let next : owned_from ps 0 (take (i + 1) (tets n s₀)) ≡ owned_from ps 0 l ++ map (owned_row i b) (faces_of t) =
          ap (λ (u : ℕ). owned_from ps 0 (take u (tets n s₀))) (add-one i)
          ∙ ap (owned_from ps 0)
          (take-suc (tets n s₀) i (tet 0 0 0 0) (omega (arith, length-tets n s₀))
          ∙ ap (λ (u : Tet). l ++ (u ∷ [])) (tets-at n s₀ i (tet 0 0 0 0) h ∙ sym (e ∙ tet-kept s₀ s n i owning-kept.front h)))
          ∙ owned-append 0 l t
          ∙ ap₂ (λ (u v : ℕ). owned_from ps 0 l ++ map (owned_row u v) (faces_of t)) (sym long) (sym f) in
          record {
            bound = omega arith;
            pushed =
                subst (λ (u : List (List ℕ)). Pushed u 5 (4 * n) s₀ s' (4 * (i + 1))) (sym next)
                (subst (λ (u : ℕ). Pushed (owned_from ps 0 l ++ map (owned_row i b) (faces_of t)) 5 (4 * n) s₀ s' u) many
                (push-more (shape-owned 0 l) (omega arith) g.pushed (subst (λ (u : ℕ). Pushed (map (owned_row i b) (faces_of t)) 5 u s s' 4) at r)));
          }

      pub owning-end : n ≤ i → Pushed (owned_from ps 0 (tets n s₀)) 5 (4 * n) s₀ s (4 * n)
      owning-end h =
          let e : i ≡ n = omega (arith, g.bound) in
          subst (λ (u : ℕ). Pushed (owned_from ps 0 (tets n s₀)) 5 (4 * n) s₀ s (4 * u)) e
          (subst (λ (l : List Tet). Pushed (owned_from ps 0 l) 5 (4 * n) s₀ s (4 * i)) (take_all i (tets n s₀) (omega (arith, length-tets n s₀))) g.pushed)

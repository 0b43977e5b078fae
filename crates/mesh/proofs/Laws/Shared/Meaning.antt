-- Where each element has four different vertices, the owners of a listed face are the elements that have its three vertices, in number
-- order, each once. Assumes nothing.
use Rattle.std.proofs.Common.{◌≡◌, ℕ, ◌+◌, Bool, true, false, cond, List, [], ◌∷◌, ◌++◌, map, length, get_or, sym, refl, ap, ◌∙◌, subst, ap₂, inl, inr, append_assoc, arith, length-append}
use mathlib.Core.List.Memᴰ
use lib.Seq.{get_or-append_seam}
use Rattle.mesh.specs.declared.element.Triple.{Triple}
use Rattle.mesh.specs.declared.element.Tet.{Tet}
use Rattle.mesh.specs.Complex.{sub, keep, Nodup}
use Rattle.mesh.specs.inside.Complex.{star}
use Rattle.mesh.specs.Element.{faces_of, key_of, corners_of, vertices_of}
use Rattle.mesh.specs.Boundary.{same_triple, all_faces}
use Rattle.mesh.specs.Words.{numbers}
use Rattle.mesh.proofs.Laws.Bools.{split}
use Rattle.mesh.proofs.Laws.Complex.Sums.{bit}
use Rattle.mesh.proofs.Laws.Link.Simplices.{rising}
use Rattle.mesh.proofs.Laws.Link.Keys.{Fours, keep-cons, times-star}
use Rattle.mesh.specs.inside.Shared.{owners_from, owners}

-- has the element i all of these vertices
abbrev pub holds : List ℕ → List Tet → Tet → ℕ → Bool
holds σ ts z i = sub σ (vertices_of (get_or ts i z))

module _ (f : Triple) (h : rising (corners_of f) ≡ true) where
  -- an element has the key once where it has the vertices, else not
  one-owner : (t : Tet) → Nodup (vertices_of t) → length (keep (same_triple f) (map key_of (faces_of t))) ≡ bit (sub (corners_of f) (vertices_of t))
  unfolding all_faces star
  one-owner t d =
      let e = times-star f h (t ∷ []) (λ u m. subst (λ (v : Tet). Nodup (vertices_of v)) (sym (Memᴰ.eq_of_singleton m)) d) in
      let k = keep-cons (sub (corners_of f)) (vertices_of t) [] in
      omega arith

  const-map : (i : ℕ) (b : Bool) (l : List Triple) → length l ≡ bit b → map (λ g. i) l ≡ cond b (i ∷ []) []
  const-map i true [] e = absurd (omega arith)
  const-map i true (x ∷ []) e = refl
  const-map i true (x ∷ y ∷ l) e = absurd (omega arith)
  const-map i false [] e = refl
  const-map i false (x ∷ l) e = absurd (omega arith)

  owners-from : (z : Tet) (pre ts : List Tet) → Fours ts → owners_from (length pre) f ts ≡ keep (holds (corners_of f) (pre ++ ts) z) (numbers (length pre) (length ts))
  unfolding owners_from numbers
  owners-from z pre [] d = refl
  owners-from z pre (t ∷ ts) d =
      let σ = corners_of f in
      let e : length pre + 1 ≡ length (pre ++ (t ∷ [])) = sym (length-append pre (t ∷ [])) in
      let here : holds σ (pre ++ (t ∷ ts)) z (length pre) ≡ sub σ (vertices_of t) = ap (λ (u : Tet). sub σ (vertices_of u)) (get_or-append_seam pre t ts z) in
      let rest : owners_from (length pre + 1) f ts ≡ keep (holds σ (pre ++ (t ∷ ts)) z) (numbers (length pre + 1) (length ts)) =
      ap (λ (u : ℕ). owners_from u f ts) e
      ∙ owners-from z (pre ++ (t ∷ [])) ts (λ u m. d u (Memᴰ.tail m))
      ∙ ap₂ (λ (l : List Tet) (u : ℕ). keep (holds σ l z) (numbers u (length ts))) (append_assoc pre (t ∷ []) ts) (sym e) in
      ap₂ (λ (a b : List ℕ). a ++ b) (const-map (length pre) (sub σ (vertices_of t)) (keep (same_triple f) (map key_of (faces_of t))) (one-owner t (d t (Memᴰ.head refl)))) rest
      ∙ elim (split (sub σ (vertices_of t))) [ inl k ↦ rw (here, k) refl | inr k ↦ rw (here, k) refl ]

  -- the owners are the elements with its vertices
  pub owners-are : (z : Tet) (ts : List Tet) → Fours ts → owners ts f ≡ keep (holds (corners_of f) ts z) (numbers 0 (length ts))
  owners-are z ts d = owners-from z [] ts d

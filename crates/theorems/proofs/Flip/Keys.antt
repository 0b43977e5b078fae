-- The keys of a surface that is the boundary are those that one element has. So where the elements at the end have the boundary of those at
-- the start, the sorted keys are the same, and the end's number is 0, 16 or 17. Assumes nothing.
use mathlib.Core.Path.{◌≡◌, refl, sym, ap, subst, ◌∙◌}
use mathlib.Core.Logic.{◌⊎◌, inl, inr}
use mathlib.Core.Bool.{Bool, true, false, cond}
use mathlib.Core.List.{List, [], ◌∷◌, map}
use Prim.Native.Nat.{ℕ}
use native.Mathlib.Omega.{arith}
use borrow.Author.Tests.{ne_eqb}
use lib.Dec.{eqb}
use lib.ListN.{length}
use Rattle.mesh.specs.declared.element.Triple.{Triple}
use Rattle.mesh.specs.declared.element.Tet.{Tet}
use Rattle.mesh.specs.Sort.{sort}
use Rattle.mesh.specs.inside.Sort.{count}
use Rattle.mesh.specs.Sets.{times}
use Rattle.mesh.specs.Tests.{every}
use Rattle.mesh.specs.Element.{vertices_of, corners_of, key_of, parity_of}
use Rattle.mesh.specs.Boundary.{same_triple, le_triple, all_faces, with_key, key_number, first_number, boundary_number, boundary_of}
use Rattle.mesh.proofs.Laws.Bools.{and_intro}
use Rattle.mesh.proofs.Laws.Complex.Sets.{split, clash, and-fst, and-snd}
use Rattle.mesh.proofs.Laws.Complex.Sums.{bit}
use Rattle.mesh.proofs.Laws.Boundary.Order.{same_refl, same-sound, triples-same}
use Rattle.mesh.proofs.Laws.Boundary.Same.{count-keep, length-map}
use Rattle.mesh.proofs.Laws.Link.Simplices.{rising, rising-nodup}
use Rattle.mesh.proofs.Laws.Link.Keys.{Fours, times-star}
use Rattle.mesh.proofs.Laws.Link.Closed.{with-key}
use Rattle.repair.specs.Flip.{sorted_keys, same_triples, end_number}
use Rattle.repair.specs.Wholeness.{single, IsBoundary}
use Rattle.repair.proofs.Laws.Flip.Listed.{keys-rise}
use Rattle.repair.proofs.Laws.Improve.Closed.{boundary-closed}
use Rattle.theorems.specs.FlipRefusals.{CountOr17}
use Rattle.theorems.proofs.Flip.Five.{SameBoundary}

-- ---- how often a key stands in the surface

length-single : (l : List ℕ) → length (single l) ≡ bit (eqb (length l) 1)
length-single [] = refl
length-single (x ∷ []) = refl
length-single (x ∷ y ∷ l) = sym (ap bit (ne_eqb (length (x ∷ y ∷ l)) 1 (λ e. omega arith)))

-- once where one face has the key, else never
key-once : (ts : List Tet) (fs : List Triple) → IsBoundary ts fs → (k : Triple) → count same_triple k (map key_of fs) ≡ bit (eqb (length (with_key k (all_faces ts))) 1)
key-once ts fs h k =
    count-keep same_triple k (map key_of fs) ∙ sym (with-key k fs) ∙ sym (length-map parity_of (with_key k fs)) ∙ ap length (h k)
    ∙ length-single (map parity_of (with_key k (all_faces ts))) ∙ ap (λ n. bit (eqb n 1)) (length-map parity_of (with_key k (all_faces ts)))

-- ---- how many faces have a key

-- a triple that fails is not among those that pass
never : (p : Triple → Bool) (k : Triple) (l : List Triple) → every p l ≡ true → p k ≡ false → times same_triple k l ≡ 0
never p k [] h o = refl
never p k (f ∷ l) h o =
    let r = never p k l (and-snd (p f) (every p l) h) o in
    elim (split (same_triple k f)) [
      | inl e ↦ absurd (clash (subst (λ g. p g ≡ true) (sym (same-sound k f e)) (and-fst (p f) (every p l) h)) o)
      | inr e ↦ rw e r
    ]

-- one face has a key of ts where one has it of us
one-face : (ts us : List Tet) → Fours ts → Fours us → SameBoundary (map vertices_of ts) (map vertices_of us) → (k : Triple)
    → eqb (length (with_key k (all_faces ts))) 1 ≡ eqb (length (with_key k (all_faces us))) 1
one-face ts us d e s k =
    ap (λ n. eqb n 1) (with-key k (all_faces ts)) ∙ elim (split (rising (corners_of k))) [
      | inl r ↦ ap (λ n. eqb n 1) (times-star k r ts d) ∙ s (corners_of k) refl (rising-nodup (corners_of k) r) ∙ ap (λ n. eqb n 1) (sym (times-star k r us e))
      | inr r ↦
          ap (λ n. eqb n 1) (never (λ f. rising (corners_of f)) k (map key_of (all_faces ts)) (keys-rise ts d) r
          ∙ sym (never (λ f. rising (corners_of f)) k (map key_of (all_faces us)) (keys-rise us e) r))
    ] ∙ ap (λ n. eqb n 1) (sym (with-key k (all_faces us)))

-- ---- the sorted keys

same-all : (l : List Triple) → same_triples l l ≡ true
unfolding same_triples
same-all [] = refl
same-all (f ∷ l) = and_intro (same_triple f f) (same_triples l l) (same_refl f) (same-all l)

-- the given surface, the boundary of ts, has the keys of the boundary of us
pub same_keys : (ts us : List Tet) (given : List Triple) → Fours ts → Fours us → SameBoundary (map vertices_of ts) (map vertices_of us) → IsBoundary ts given
    → same_triples (sorted_keys (boundary_of us)) (sorted_keys given) ≡ true
same_keys ts us given d e s h =
    subst (λ l. same_triples (sorted_keys (boundary_of us)) l ≡ true)
    (triples-same (map key_of (boundary_of us)) (map key_of given) (λ k. key-once us (boundary_of us) (boundary-closed us) k ∙ ap bit (sym (one-face ts us d e s k)) ∙ sym (key-once ts given h k)))
    (same-all (sorted_keys (boundary_of us)))

-- ---- the numbers

-- what the faces of a key, and all of them, may give
abbrev Found : ℕ → Type 0
Found number = (number ≡ 0) ⊎ ((number ≡ 16) ⊎ (number ≡ 17))

key-number : (fs : List Triple) → Found (key_number fs)
unfolding key_number
key-number [] = inl refl
key-number (f ∷ []) = inl refl
key-number (f ∷ g ∷ []) = go (eqb (parity_of f) (parity_of g))
  where
    go : (b : Bool) → Found (cond b 17 0)
    go true = inr (inr refl)
    go false = inl refl
key-number (f ∷ g ∷ h ∷ fs) = inr (inl refl)

first-number : (fs ks : List Triple) → Found (first_number fs ks)
unfolding first_number
first-number fs [] = inl refl
first-number fs (k ∷ ks) = go (eqb (key_number (with_key k fs)) 0) (first-number fs ks)
  where
    go : (b : Bool) → Found (first_number fs ks) → Found (cond b (first_number fs ks) (key_number (with_key k fs)))
    go true ih = ih
    go false ih = key-number (with_key k fs)

boundary-number : (ts : List Tet) → Found (boundary_number ts)
unfolding boundary_number
boundary-number ts = first-number (all_faces ts) (sort le_triple (map key_of (all_faces ts)))

-- the end's number, where no key has three faces and the keys are those given
pub end-number : (given : List Triple) (ts : List Tet) → (boundary_number ts ≡ 16 → ⊥) → same_triples (sorted_keys (boundary_of ts)) (sorted_keys given) ≡ true
    → CountOr17 (end_number given ts)
unfolding end_number
end-number given ts never h = elim (boundary-number ts) [
  | inl e ↦ inl (rw (e, h) refl)
  | inr o ↦ elim o [ inl e ↦ absurd (never e) | inr e ↦ inr (rw e refl) ]
]

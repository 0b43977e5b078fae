-- How many elements of a list have a triangle: as many as among given elements, where those are its elements with σ, and among the others.
-- Assumes nothing.
use mathlib.Core.Path.{◌≡◌, refl, sym, ap, ◌∙◌}
use mathlib.Core.Logic.{inl, inr}
use mathlib.Core.Bool.{true, not}
use mathlib.Core.List.Memᴰ
use mathlib.Core.List.{List, [], ◌∷◌, Memᴰ}
use Prim.Native.Nat.{ℕ, ◌+◌, ◌≤◌}
use native.Mathlib.Omega.{arith}
use lib.ListN.{length}
use Rattle.mesh.specs.Complex.{sub, within, keep, Sub}
use Rattle.mesh.specs.inside.Complex.{star, Proper, SameComplex}
use Rattle.mesh.proofs.Laws.Complex.Sets.{split, clash, sub-elim, sub-intro, within-elim, within-intro}
use Rattle.mesh.proofs.Laws.Complex.Lists.{keep-intro, keep-pos}
use Rattle.mesh.proofs.Laws.Complex.Same.{proper-keep}
use Rattle.mesh.proofs.Laws.Complex.Tets.{tet-of, whole}
use Rattle.mesh.proofs.Laws.Link.Order.{star-complex}
use Rattle.repair.proofs.Laws.Flip.Triangles.{star-cons}
use Rattle.repair.proofs.Laws.Flip.Owners.{keep-both}

-- ---- elements with σ

-- what lies within an element and has σ lies within an element that has σ
within-having : (σ e : List ℕ) (es : List (List ℕ)) → sub σ e ≡ true → within e es ≡ true → within e (keep (sub σ) es) ≡ true
within-having σ e es s h =
    let r = within-elim e es h in
    within-intro e (keep-intro (sub σ) r.0 es r.1 (sub-intro σ r.0 (λ z m. r.2 z (sub-elim σ e s z m)))) r.2

-- ---- elements that all lie in another list

-- there are no more of them than that list has
no_more : (n : ℕ) (es fs : List (List ℕ)) → Proper n es → Proper n fs → ((e : List ℕ) → Memᴰ e es → within e fs ≡ true) → length es ≤ length fs
no_more n [] fs P Q h = omega arith
no_more n (e ∷ es) fs P Q h =
    let r = within-elim e fs (h e (Memᴰ.head refl)) in
    omega (
      arith,
      no_more n es (keep (λ f. not (sub e f)) fs) P.2 (proper-keep n (λ f. not (sub e f)) fs Q) others,
      keep-both (sub e) fs,
      keep-pos (sub e) r.0 fs r.1 (sub-intro e r.0 r.2),
    )
  where
    -- the others lie in elements that are not e
    others : (f : List ℕ) → Memᴰ f es → within f (keep (λ f. not (sub e f)) fs) ≡ true
    others f m =
        let r = within-elim f fs (h f (Memᴰ.tail m)) in
        elim (split (sub e r.0)) [
          | inl s ↦
              let t = tet-of {n = n} P.2 m in
              let in_e : Sub f e = λ z i. whole e (tet-of {n = n} Q r.1) P.0.four P.0.distinct (sub-elim e r.0 s) z (r.2 z i) in
              absurd (P.1 f m (whole f P.0 t.four t.distinct in_e) in_e)
          | inr s ↦ within-intro f (keep-intro (λ g. not (sub e g)) r.0 fs r.1 (ap not s)) r.2
        ]

-- and where there are as many, they are that list but for the order
all_of : (n : ℕ) (es fs : List (List ℕ)) → Proper n es → Proper n fs → ((e : List ℕ) → Memᴰ e es → within e fs ≡ true) → length fs ≤ length es → SameComplex es fs
all_of n es fs P Q h l = (h, back)
  where
    back : (f : List ℕ) → Memᴰ f fs → within f es ≡ true
    back f m = elim (split (within f es)) [
      | inl k ↦ k
      | inr k ↦
          let r = no_more n (f ∷ es) fs (tet-of {n = n} Q m, (λ e i s t. clash (within-intro f i s) k), P) Q
          (λ e i. elim (Memᴰ.cases_cons i) [ inl q ↦ within-intro e m (λ z j. rw (sym q) j) | inr q ↦ h e q ]) in
          absurd (omega arith)
    ]

-- ---- those with σ and the others

star-apart : (τ σ : List ℕ) (es : List (List ℕ)) → star τ es ≡ star τ (keep (sub σ) es) + star τ (keep (λ e. not (sub σ e)) es)
star-apart τ σ [] = nil
  where
    nil : star τ [] ≡ star τ [] + star τ []
    nil = unfold star in refl
star-apart τ σ (e ∷ es) =
    let r = star-apart τ σ es in
    let c = star-cons τ e es in
    elim (split (sub σ e)) [
      | inl h ↦ rw h (omega (arith, star-cons τ e (keep (sub σ) es)))
      | inr h ↦ rw h (omega (arith, star-cons τ e (keep (λ e. not (sub σ e)) es)))
    ]

few-having : (σ : List ℕ) (ks es : List (List ℕ)) → star σ es ≡ length ks → length (keep (sub σ) es) ≤ length ks
unfolding star
few-having σ ks es e = omega arith

-- where the elements ks, as many as have σ, have it and lie in the list
pub star-replaced : (n : ℕ) (τ σ : List ℕ) (ks es : List (List ℕ)) → Proper n es → Proper n ks → star σ es ≡ length ks
    → ((e : List ℕ) → Memᴰ e ks → within e es ≡ true) → ((e : List ℕ) → Memᴰ e ks → sub σ e ≡ true)
    → star τ es ≡ star τ ks + star τ (keep (λ e. not (sub σ e)) es)
star-replaced n τ σ ks es P Q many there have =
    let K : Proper n (keep (sub σ) es) = proper-keep n (sub σ) es P in
    let S = star-complex n τ ks (keep (sub σ) es) Q K (all_of n ks (keep (sub σ) es) Q K (λ e m. within-having σ e es (have e m) (there e m)) (few-having σ ks es many)) in
    star-apart τ σ es ∙ ap (λ k. k + star τ (keep (λ e. not (sub σ e)) es)) (sym S)

-- A vertex with itself passes `link_ok`. Assumes nothing.
use Rattle.std.proofs.Common.{◌≡◌, ℕ, min, max, Bool, true, false, not, ◌&&◌, ◌||◌, eqb, List, [], ◌∷◌, map, sym, refl, ap, ◌∙◌, subst, ap₂, inl, inr, arith, ne_eqb, eqb-true}
use mathlib.Core.List.{Memᴰ}
use Rattle.mesh.specs.declared.element.Tet.{Tet}
use Rattle.mesh.specs.declared.element.Triple.{Triple}
use Rattle.mesh.specs.Complex.{mem, within, keep, Nodup}
use Rattle.mesh.specs.Tests.{every}
use Rattle.mesh.specs.Sets.{same_set}
use Rattle.mesh.specs.Element.{triple, vertices_of, corners_of}
use Rattle.mesh.specs.Feature.{onto, Label, label, same_label, features, three_apart, mapped, expected, neighbours, edges_ok, neighbours_ok, feature_ok, link_ok}
use Rattle.mesh.specs.Link.{links_meet, interior_ok, boundary_about, boundary_ok}
use Rattle.mesh.proofs.Laws.Complex.Sets.{split, nope, same, or_left, and-fst, and-snd, mem-here, mem-there, out-head, out-tail, within-mono, Sub-cons}
use Rattle.mesh.proofs.Laws.Link.Members.{every-intro, same_set-intro}
use Rattle.mesh.proofs.Laws.Link.Simplices.{rising-nodup}
use Rattle.mesh.proofs.Laws.Link.Links.{Simplices, links_meet-complete}
use Rattle.mesh.proofs.Laws.Link.Keys.{Fours}
use Rattle.mesh.proofs.Laws.Link.Interior.{fours-simplices}
use Rattle.mesh.proofs.Laws.Link.Boundary.{boundary-elim, boundary-simplices}
use Rattle.mesh.proofs.Laws.Link.Features.{label-decides}
use Rattle.mesh.proofs.Laws.Link.Labels.{Distinct, features-elim, features-intro, expected-elim, expected-intro}

-- the links of one vertex meet in its link
self-meets : (a : ℕ) (τs : List (List ℕ)) → Simplices τs → links_meet a a τs ≡ true
self-meets a τs S =
    links_meet-complete a a τs S
    (λ σ n d oa ob. same
    (λ w. within-mono (a ∷ a ∷ σ) (a ∷ σ) τs (Sub-cons a (a ∷ σ) (a ∷ σ) (mem-here a σ) (λ z m. m)) (left (within (a ∷ σ) τs) w))
    (λ w. let h = within-mono (a ∷ σ) (a ∷ a ∷ σ) τs (λ z m. mem-there z a (a ∷ σ) m) w in rw h refl))
  where
    left : (p : Bool) → (p && p) ≡ true → p ≡ true
    left true h = refl
    left false h = h

-- nothing is moved
onto-self : (a z : ℕ) → onto a a z ≡ z
onto-self a z = elim (split (eqb z a)) [ inl h ↦ rw h (sym (eqb-true z a h)) | inr h ↦ rw h refl ]

three-apart : (f : Triple) → Nodup (corners_of f) → three_apart f ≡ true
three-apart f d =
    let h = out-tail f.a f.b (f.c ∷ []) d.0 in
    rw (ne_eqb f.a f.b (out-head f.a f.b (f.c ∷ []) d.0), ne_eqb f.b f.c (out-head f.b f.c [] d.1.0), ne_eqb f.a f.c (out-head f.a f.c [] h)) refl

mapped-self : (a : ℕ) (fs : List Triple) → Distinct fs → mapped a a fs ≡ fs
mapped-self a [] D = refl
mapped-self a (f ∷ fs) D =
    let e : triple (onto a a f.a) (onto a a f.b) (onto a a f.c) ≡ f = rw (onto-self a f.a, onto-self a f.b, onto-self a f.c) refl in
    let ih = mapped-self a fs (λ g m. D g (Memᴰ.tail m)) in
    ap (λ (g : Triple). keep three_apart (g ∷ map (λ f. triple (onto a a f.a) (onto a a f.b) (onto a a f.c)) fs)) e
    ∙ rw (three-apart f (D f (Memᴰ.head refl))) (ap (λ (l : List Triple). f ∷ l) ih)

module _ (stratum : ℕ → ℕ) (a : ℕ) (fs : List Triple) (D : Distinct fs) where
  edges-self : edges_ok stratum a a fs ≡ true
  unfolding edges_ok
  edges-self =
      ap (λ (gs : List Triple). same_set same_label (features stratum gs) (expected a a (features stratum fs))) (mapped-self a fs D)
      ∙ same_set-intro same_label label-decides (features stratum fs) (expected a a (features stratum fs)) (λ l. (into l, back l))
    where
      into : (l : Label) → Memᴰ l (features stratum fs) → Memᴰ l (expected a a (features stratum fs))
      into l m =
          let r = features-elim stratum fs D m in
          let i = expected-intro stratum a a fs r.0 r.1 r.2 r.3 r.4 (λ e. r.4.differ (sym (onto-self a r.2) ∙ e ∙ onto-self a r.3)) in
          subst (λ (k : Label). Memᴰ k (expected a a (features stratum fs)))
          (ap₂ (λ (u v : ℕ). label r.0 r.1 u v) (onto-self a r.2) (onto-self a r.3) ∙ sym r.5) i

      back : (l : Label) → Memᴰ l (expected a a (features stratum fs)) → Memᴰ l (features stratum fs)
      back l m =
          let r = expected-elim stratum a a fs D m in
          subst (λ (k : Label). Memᴰ k (features stratum fs))
          (sym (r.6 ∙ ap₂ (λ (u v : ℕ). label r.0 r.1 u v) (onto-self a r.2) (onto-self a r.3)))
          (features-intro stratum fs r.0 r.1 r.2 r.3 r.4)

  neighbours-self : neighbours_ok stratum a a fs ≡ true
  unfolding neighbours_ok
  neighbours-self =
      every-intro (λ l. not (eqb l.u (min a a) && eqb l.v (max a a)) || every (λ n. not (mem n (neighbours l a (features stratum fs)))) (neighbours l a (features stratum fs))) (features stratum fs)
      (λ l m. or_left {a = not (eqb l.u (min a a) && eqb l.v (max a a))} (every (λ n. not (mem n (neighbours l a (features stratum fs)))) (neighbours l a (features stratum fs)))
      (ap not (nope (λ h.
      let r = features-elim stratum fs D m in
      let p = eqb-true l.u (min a a) (and-fst (eqb l.u (min a a)) (eqb l.v (max a a)) h) in
      let q = eqb-true l.v (max a a) (and-snd (eqb l.u (min a a)) (eqb l.v (max a a)) h) in
      let u : l.u ≡ min r.2 r.3 = ap (λ (k : Label). k.u) r.5 in
      let v : l.v ≡ max r.2 r.3 = ap (λ (k : Label). k.v) r.5 in
      r.4.differ (omega arith)))))

-- a vertex with itself passes
pub link_ok-self : (stratum : ℕ → ℕ) (a : ℕ) (ts : List Tet) → Fours ts → link_ok stratum a a ts ≡ true
unfolding link_ok interior_ok boundary_ok feature_ok
link_ok-self stratum a ts F =
    let D : Distinct (boundary_about a a ts) = λ f m. rising-nodup (corners_of f) (boundary-elim a a ts F f m).rises in
    rw (
      self-meets a (map vertices_of ts) (fours-simplices ts F),
      self-meets a (map corners_of (boundary_about a a ts)) (boundary-simplices a a ts F),
      edges-self stratum a (boundary_about a a ts) D,
    ) (neighbours-self stratum a (boundary_about a a ts) D)

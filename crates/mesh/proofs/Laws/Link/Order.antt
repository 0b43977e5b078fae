-- The link tests depend on the elements about the edge only, and not on their order: elements without a and without b may be dropped
-- or added, and proper lists with the same complex give the same. Assumes nothing.
use Rattle.std.proofs.Common.{◌≡◌, ℕ, Bool, true, false, cond, ◌||◌, eqb, leb, ◌≢◌, List, [], ◌∷◌, ◌++◌, map, sym, refl, ap, ◌∙◌, subst, inl, inr, eqb-true}
use mathlib.Core.List.Memᴰ
use mathlib.Core.List.{Memᴰ}
use Rattle.mesh.specs.declared.element.Tet.{Tet}
use Rattle.mesh.specs.declared.element.Triple.{Triple}
use Rattle.mesh.specs.Complex.{mem, sub, within, keep}
use Rattle.mesh.specs.inside.Complex.{star, Proper, SameComplex}
use Rattle.mesh.specs.Element.{triple, key_of, vertices_of, corners_of}
use Rattle.mesh.specs.Sort.{sort}
use Rattle.mesh.specs.Sets.{both, times}
use Rattle.mesh.specs.Boundary.{same_triple, all_faces}
use Rattle.mesh.specs.Link.{same_simplex, link, subsets, without, links_meet, interior_ok, keys_about, boundary_about, boundary_ok}
use Rattle.mesh.specs.Feature.{link_ok}
use Rattle.mesh.proofs.Laws.Complex.Sets.{split, clash, nope, same, or_left, or_right, mem-here, out, out-head, out-tail, sub-elim, sub-intro, within-elim, within-intro}
use Rattle.mesh.proofs.Laws.Complex.Same.{same-within, same_length, proper-keep}
use Rattle.mesh.proofs.Laws.Link.Members.{Alike, kept-elim, kept-intro, both-alike, same_set-alike}
use Rattle.mesh.proofs.Laws.Link.Links.{simplex-decides, Simplices, link-elim, link-intro}
use Rattle.mesh.proofs.Laws.Link.Keys.{proper-fours, key-mem, triple-decides}
use Rattle.mesh.proofs.Laws.Link.Interior.{fours-simplices}
use Rattle.mesh.proofs.Laws.Link.Boundary.{times-keep, boundary-elim, boundary-intro, boundary-simplices}
use Rattle.mesh.proofs.Laws.Link.Features.{feature_ok-alike}

-- ---- elements without a and without b

-- has the element a or b
abbrev pub about : ℕ → ℕ → Tet → Bool
about a b t = mem a (vertices_of t) || mem b (vertices_of t)

-- a test that lets every element with a or b pass
abbrev pub Spares : ℕ → ℕ → (Tet → Bool) → List Tet → Type 0
Spares a b p ts = (t : Tet) → Memᴰ t ts → about a b t ≡ true → p t ≡ true

link-keep : (ρ : List ℕ) (p : Tet → Bool) (ts : List Tet) → ((t : Tet) → Memᴰ t ts → sub ρ (vertices_of t) ≡ true → p t ≡ true) → link ρ (map vertices_of (keep p ts)) ≡ link ρ (map vertices_of ts)
unfolding link
link-keep ρ p [] h = refl
link-keep ρ p (t ∷ ts) h =
    let ih : link ρ (map vertices_of (keep p ts)) ≡ link ρ (map vertices_of ts) = link-keep ρ p ts (λ u m. h u (Memᴰ.tail m)) in
    elim (split (p t)) [
      | inl k ↦ rw k (ap (λ l. cond (sub ρ (vertices_of t)) (subsets (sort leb (without ρ (vertices_of t)))) [] ++ l) ih)
      | inr k ↦
          let o : sub ρ (vertices_of t) ≡ false = nope (λ s. clash (h t (Memᴰ.head refl) s) k) in
          rw (k, o) ih
    ]

-- a vertex that the element lacks, its faces' keys lack
lacks-key : (v : ℕ) (f : Triple) → v ≢ f.a → v ≢ f.b → v ≢ f.c → mem v (corners_of (key_of f)) ≡ false
lacks-key v f p q r = key-mem f v ∙ out v f.a (f.b ∷ f.c ∷ []) p (out v f.b (f.c ∷ []) q (out v f.c [] r refl))

record Lacks (v : ℕ) (t : Tet) : Type 0 where
  a : v ≢ t.a
  b : v ≢ t.b
  c : v ≢ t.c
  d : v ≢ t.d

lacks : (v : ℕ) (t : Tet) → mem v (vertices_of t) ≡ false → Lacks v t
lacks v t o =
    let o₁ = out-tail v t.a (t.b ∷ t.c ∷ t.d ∷ []) o in
    let o₂ = out-tail v t.b (t.c ∷ t.d ∷ []) o₁ in
    record {
      a = out-head v t.a (t.b ∷ t.c ∷ t.d ∷ []) o;
      b = out-head v t.b (t.c ∷ t.d ∷ []) o₁;
      c = out-head v t.c (t.d ∷ []) o₂;
      d = out-head v t.d [] (out-tail v t.c (t.d ∷ []) o₂);
    }

-- k before l if it passes the test
abbrev put : {A : Type 0} → (A → Bool) → A → List A → List A
put q k l = cond (q k) (k ∷ l) l

module _ (a b : ℕ) (p : Tet → Bool) where
  -- the same keys about the edge, in the same order
  pub keys_about-keep : (ts : List Tet) → Spares a b p ts → keys_about a b (keep p ts) ≡ keys_about a b ts
  unfolding keys_about all_faces
  keys_about-keep [] h = refl
  keys_about-keep (t ∷ ts) h =
      let q : Triple → Bool = λ f. mem a (corners_of f) || mem b (corners_of f) in
      let ih : keep q (map key_of (all_faces (keep p ts))) ≡ keep q (map key_of (all_faces ts)) = keys_about-keep ts (λ u m. h u (Memᴰ.tail m)) in
      elim (split (p t)) [
        | inl k ↦ rw k
            (ap (λ l. put q (key_of (triple t.a t.b t.d)) (put q (key_of (triple t.a t.c t.b)) (put q (key_of (triple t.a t.d t.c)) (put q (key_of (triple t.b t.c t.d)) l)))) ih)
        | inr k ↦
            let x = lacks a t (nope (λ m. clash (h t (Memᴰ.head refl) (or_left {a = mem a (vertices_of t)} (mem b (vertices_of t)) m)) k)) in
            let y = lacks b t (nope (λ m. clash (h t (Memᴰ.head refl) (or_right (mem a (vertices_of t)) m)) k)) in
            rw (
              k,
              lacks-key a (triple t.a t.b t.d) x.a x.b x.d,
              lacks-key b (triple t.a t.b t.d) y.a y.b y.d,
              lacks-key a (triple t.a t.c t.b) x.a x.c x.b,
              lacks-key b (triple t.a t.c t.b) y.a y.c y.b,
              lacks-key a (triple t.a t.d t.c) x.a x.d x.c,
              lacks-key b (triple t.a t.d t.c) y.a y.d y.c,
              lacks-key a (triple t.b t.c t.d) x.b x.c x.d,
              lacks-key b (triple t.b t.c t.d) y.b y.c y.d,
            ) ih
      ]

  module _ (ts : List Tet) (h : Spares a b p ts) where
    -- the interior test is the same
    pub interior_ok-keep : interior_ok a b (keep p ts) ≡ interior_ok a b ts
    unfolding interior_ok links_meet
    interior_ok-keep =
        rw (
          link-keep (a ∷ []) p ts (λ t m s. h t m (or_left {a = mem a (vertices_of t)} (mem b (vertices_of t)) (sub-elim (a ∷ []) (vertices_of t) s a (mem-here a [])))),
          link-keep (b ∷ []) p ts (λ t m s. h t m (or_right (mem a (vertices_of t)) (sub-elim (b ∷ []) (vertices_of t) s b (mem-here b [])))),
          link-keep (a ∷ b ∷ []) p ts (λ t m s. h t m (or_left {a = mem a (vertices_of t)} (mem b (vertices_of t)) (sub-elim (a ∷ b ∷ []) (vertices_of t) s a (mem-here a (b ∷ []))))),
        ) refl

    -- the boundary faces about the edge are the very same list
    pub boundary_about-keep : boundary_about a b (keep p ts) ≡ boundary_about a b ts
    unfolding boundary_about
    boundary_about-keep = rw (keys_about-keep ts h) refl

    -- the boundary test is the same
    pub boundary_ok-keep : boundary_ok a b (keep p ts) ≡ boundary_ok a b ts
    unfolding boundary_ok
    boundary_ok-keep = rw boundary_about-keep refl

    -- elements without a and without b may be dropped, or added
    pub link_ok-keep : (stratum : ℕ → ℕ) → link_ok stratum a b (keep p ts) ≡ link_ok stratum a b ts
    unfolding link_ok
    link_ok-keep stratum = rw (interior_ok-keep, boundary_ok-keep, boundary_about-keep) refl

-- ---- the same complex

-- links that hold the same sets
link-alike : (ρ : List ℕ) (τs υs : List (List ℕ)) → Simplices τs → Simplices υs → ((σ : List ℕ) → within σ τs ≡ within σ υs) → Alike (link ρ τs) (link ρ υs)
link-alike ρ τs υs S T w σ = (
  (λ m. let r = link-elim ρ τs S m in link-intro ρ σ υs T (record { some = r.some; small = r.small; rises = r.rises; apart = r.apart; inside = sym (w (ρ ++ σ)) ∙ r.inside })),
  (λ m. let r = link-elim ρ υs T m in link-intro ρ σ τs S (record { some = r.some; small = r.small; rises = r.rises; apart = r.apart; inside = w (ρ ++ σ) ∙ r.inside })),
)

links_meet-alike : (a b : ℕ) (τs υs : List (List ℕ)) → Simplices τs → Simplices υs → ((σ : List ℕ) → within σ τs ≡ within σ υs) → links_meet a b τs ≡ links_meet a b υs
unfolding links_meet
links_meet-alike a b τs υs S T w =
    same_set-alike same_simplex simplex-decides (both same_simplex (link (a ∷ []) τs) (link (b ∷ []) τs)) (both same_simplex (link (a ∷ []) υs) (link (b ∷ []) υs)) (link (a ∷ b ∷ []) τs) (link (a ∷ b ∷ []) υs)
    (both-alike same_simplex simplex-decides (link (a ∷ []) τs) (link (a ∷ []) υs) (link (b ∷ []) τs) (link (b ∷ []) υs) (link-alike (a ∷ []) τs υs S T w) (link-alike (b ∷ []) τs υs S T w))
    (link-alike (a ∷ b ∷ []) τs υs S T w)

-- as many elements of the one list have σ as of the other
pub star-complex : (n : ℕ) (σ : List ℕ) (es fs : List (List ℕ)) → Proper n es → Proper n fs → SameComplex es fs → star σ es ≡ star σ fs
unfolding star
star-complex n σ es fs P Q c = same_length n (keep (sub σ) es) (keep (sub σ) fs) (proper-keep n (sub σ) es P) (proper-keep n (sub σ) fs Q) (part es fs c.0, part fs es c.1)
  where
    part : (gs hs : List (List ℕ)) → ((e : List ℕ) → Memᴰ e gs → within e hs ≡ true) → (e : List ℕ) → Memᴰ e (keep (sub σ) gs) → within e (keep (sub σ) hs) ≡ true
    part gs hs f e m =
        let r = kept-elim (sub σ) gs m in
        let k = within-elim e hs (f e r.0) in
        within-intro e (kept-intro (sub σ) hs k.1 (sub-intro σ k.0 (λ z i. k.2 z (sub-elim σ e r.1 z i)))) k.2

within-corners : (σ : List ℕ) (fs gs : List Triple) → Alike fs gs → within σ (map corners_of fs) ≡ within σ (map corners_of gs)
within-corners σ fs gs h = same (move fs gs (λ f. (h f).0)) (move gs fs (λ f. (h f).1))
  where
    move : (xs ys : List Triple) → ((f : Triple) → Memᴰ f xs → Memᴰ f ys) → within σ (map corners_of xs) ≡ true → within σ (map corners_of ys) ≡ true
    move xs ys k w =
        let r = within-elim σ (map corners_of xs) w in
        let c = Memᴰ.of_map corners_of xs r.1 in
        within-intro σ {e = corners_of c.0} (Memᴰ.map corners_of (k c.0 c.1)) (λ z i. subst (λ u. mem z u ≡ true) (sym c.2) (r.2 z i))

module _ (n a b : ℕ) (ts us : List Tet) (P : Proper n (map vertices_of ts)) (Q : Proper n (map vertices_of us)) (c : SameComplex (map vertices_of ts) (map vertices_of us)) where
  -- the interior test depends on the complex only
  pub interior_ok-order : interior_ok a b ts ≡ interior_ok a b us
  unfolding interior_ok
  interior_ok-order = links_meet-alike a b (map vertices_of ts) (map vertices_of us) (fours-simplices ts (proper-fours n ts P)) (fours-simplices us (proper-fours n us Q)) (same-within (map vertices_of ts) (map vertices_of us) c)

  -- the same boundary faces about the edge, each once in both
  pub boundary_about-order : Alike (boundary_about a b ts) (boundary_about a b us)
  boundary_about-order f =
      let s = star-complex n (corners_of f) (map vertices_of ts) (map vertices_of us) P Q c in (
        (λ m. let r = boundary-elim a b ts (proper-fours n ts P) f m in boundary-intro a b us (proper-fours n us Q) f (record { rises = r.rises; about = r.about; single = sym s ∙ r.single })),
        (λ m. let r = boundary-elim a b us (proper-fours n us Q) f m in boundary-intro a b ts (proper-fours n ts P) f (record { rises = r.rises; about = r.about; single = s ∙ r.single })),
      )

  -- the boundary test too
  pub boundary_ok-order : boundary_ok a b ts ≡ boundary_ok a b us
  unfolding boundary_ok
  boundary_ok-order =
      links_meet-alike a b (map corners_of (boundary_about a b ts)) (map corners_of (boundary_about a b us)) (boundary-simplices a b ts (proper-fours n ts P)) (boundary-simplices a b us (proper-fours n us Q))
      (λ σ. within-corners σ (boundary_about a b ts) (boundary_about a b us) boundary_about-order)

  -- the order of the elements, and of the vertices in an element, does not matter
  pub link_ok-order : (stratum : ℕ → ℕ) → link_ok stratum a b ts ≡ link_ok stratum a b us
  unfolding link_ok
  link_ok-order stratum = rw (interior_ok-order, boundary_ok-order, feature_ok-alike stratum a b (boundary_about a b ts) (boundary_about a b us) boundary_about-order) refl

-- each boundary face about the edge stands in the list once
pub boundary_about-once : (a b : ℕ) (ts : List Tet) (f : Triple) → Memᴰ f (boundary_about a b ts) → times same_triple f (boundary_about a b ts) ≡ 1
unfolding boundary_about
boundary_about-once a b ts f m =
    let r = kept-elim (λ g. eqb (times same_triple g (keys_about a b ts)) 1) (keys_about a b ts) m in
    times-keep same_triple triple-decides (λ g. eqb (times same_triple g (keys_about a b ts)) 1) f (keys_about a b ts) ∙ rw r.1 (eqb-true (times same_triple f (keys_about a b ts)) 1 r.1)

-- The links of a closed manifold are cycles, where no three vertices are the corners of two triples (`link-cycle`): of the two triples that
-- have v and a vertex x of its link, the third corners are the two neighbours of x. Assumes nothing.
use mathlib.Core.Path.{◌≡◌, refl, sym, ap, ◌∙◌}
use mathlib.Core.Logic.{◌≢◌, inl, inr}
use mathlib.Core.Bool.{Bool, true, ◌&&◌}
use mathlib.Core.List.Memᴰ
use mathlib.Core.List.{List, [], ◌∷◌, Memᴰ}
use Prim.Native.Nat.{ℕ}
use native.Mathlib.Omega.{arith}
use lib.ListN.{length}
use Rattle.mesh.specs.declared.element.Triple.{Triple}
use Rattle.mesh.specs.Complex.{mem, sub, keep, Nodup, Sub}
use Rattle.mesh.specs.Element.{corners_of}
use Rattle.mesh.proofs.Laws.Bools.{and_intro}
use Rattle.mesh.proofs.Laws.Complex.Sets.{same, and-fst, and-snd, mem-cases, mem-nil, sub-elim, sub-intro, full}
use Rattle.mesh.proofs.Laws.Link.Members.{kept-elim, kept-intro, keep_same}
use Rattle.mesh.proofs.Laws.Boundary.Same.{keep-keep}
use Rattle.theorems.specs.Manifold.{Different, Once, EdgesOnTwo, LinkVertex, LinkEdge, TwoNeighbours, Cycle, Manifold}
use Rattle.theorems.proofs.Manifold.Corners.{three-apart, mem-first, mem-second, mem-third}
use Rattle.theorems.proofs.Manifold.Links.{third-corner}

-- three corners of a triple are all
all-corners : (v x y z : ℕ) (f : Triple) → Nodup (v ∷ x ∷ y ∷ []) → Sub (v ∷ x ∷ y ∷ []) (corners_of f) → mem z (corners_of f) ≡ true → v ≢ z → x ≢ z → z ≡ y
all-corners v x y z f d s m nv nx =
    elim (mem-cases z v (x ∷ y ∷ []) (full (v ∷ x ∷ y ∷ []) (corners_of f) d s (omega arith) z m)) [
      | inl q ↦ absurd (nv (sym q))
      | inr i ↦ elim (mem-cases z x (y ∷ []) i) [
        | inl q ↦ absurd (nx (sym q))
        | inr j ↦ elim (mem-cases z y [] j) [ inl q ↦ q | inr k ↦ absurd (mem-nil z k) ]
      ]
    ]

module _ (fs : List Triple) (different : Different fs) (once : Once fs) (v x : ℕ) where
  -- is v x an edge of f
  on : Triple → Bool
  on f = mem v (corners_of f) && mem x (corners_of f)

  -- the neighbour of x that a triple with v and x gives
  record Neighbour (f : Triple) : Type 0 where
    other : ℕ
    apart : Nodup (v ∷ x ∷ other ∷ [])
    within : Sub (v ∷ x ∷ other ∷ []) (corners_of f)

  neighbour : (f : Triple) → Memᴰ f fs → on f ≡ true → v ≢ x → Neighbour f
  unfolding on
  neighbour f m h n =
      let r = third-corner v x f (different f m) (and-fst (mem v (corners_of f)) (mem x (corners_of f)) h) (and-snd (mem v (corners_of f)) (mem x (corners_of f)) h) n in
      record { other = r.0; apart = r.1; within = r.2 }

  -- a link edge at x lies on a triple with v and x
  on_edge : {y : ℕ} (e : LinkEdge v fs x y) → on e.face ≡ true
  unfolding on
  on_edge {y} e = and_intro (mem v (corners_of e.face)) (mem x (corners_of e.face)) (e.corners v (mem-first v x y)) (e.corners x (mem-second v x y))

  -- on that triple it leads to the neighbour
  edge_other : {y : ℕ} {f : Triple} (e : LinkEdge v fs x y) → e.face ≡ f → (k : Neighbour f) → y ≡ k.other
  edge_other {y} {f} e q k =
      let n = three-apart v x y e.different in
      all-corners v x k.other y f k.apart k.within (rw q at (e.corners y (mem-third v x y))) n.xz n.yz

  -- two triples with v and x have not one third corner
  others-differ : (f g : Triple) → keep on fs ≡ f ∷ g ∷ [] → (k : Neighbour f) (l : Neighbour g) → k.other ≢ l.other
  unfolding on
  others-differ f g e k l q =
      let p = ap length (keep_same all (λ h. on h && all h) fs (λ h. same (λ s. and_intro (on h) (all h) (both h s) s) (and-snd (on h) (all h)))) in
      let r = ap length (sym (keep-keep all on fs) ∙ ap (keep all) e) in
      let two : length (keep all (f ∷ g ∷ [])) ≡ 2 = rw (sub-intro σ (corners_of f) k.within, sub-intro σ (corners_of g) within-g) refl in
      let one = once v x k.other k.apart in
      omega arith
    where
      σ : List ℕ
      σ = v ∷ x ∷ k.other ∷ []

      all : Triple → Bool
      all h = sub σ (corners_of h)

      within-g : Sub (v ∷ x ∷ k.other ∷ []) (corners_of g)
      within-g = rw q l.within

      both : (h : Triple) → sub σ (corners_of h) ≡ true → on h ≡ true
      both h s =
          let t = sub-elim σ (corners_of h) s in
          and_intro (mem v (corners_of h)) (mem x (corners_of h)) (t v (mem-first v x k.other)) (t x (mem-second v x k.other))

  two-neighbours : EdgesOnTwo fs → LinkVertex v fs x → TwoNeighbours v fs x
  unfolding on
  two-neighbours t h = go (keep on fs) refl (t h.face h.listed v x h.corner h.other h.differ)
    where
      go : (l : List Triple) → keep on fs ≡ l → length (keep on fs) ≡ 2 → TwoNeighbours v fs x
      go [] e n = absurd (let k = ap length e in omega arith)
      go (f ∷ []) e n = absurd (let k = ap length e in omega arith)
      go (f ∷ g ∷ c ∷ l) e n = absurd (let k = ap length e in omega arith)
      go (f ∷ g ∷ []) e n =
          let mf = kept-elim on {x = f} fs (rw e (Memᴰ.head refl)) in
          let mg = kept-elim on {x = g} fs (rw e (Memᴰ.tail (Memᴰ.head refl))) in
          let kf = neighbour f mf.0 mf.1 h.differ in
          let kg = neighbour g mg.0 mg.1 h.differ in
          record {
            left = kf.other;
            right = kg.other;
            differ = others-differ f g e kf kg;
            to_left = record { face = f; listed = mf.0; different = kf.apart; corners = kf.within };
            to_right = record { face = g; listed = mg.0; different = kg.apart; corners = kg.within };
            only = λ y k. elim (Memᴰ.cases_cons (rw e at (kept-intro on fs k.listed (on_edge k)))) [
              | inl q ↦ inl (edge_other k q kf)
              | inr m ↦ elim (Memᴰ.cases_cons m) [ inl q ↦ inr (edge_other k q kg) | inr i ↦ absurd (Memᴰ.not-nil i) ]
            ];
          }

-- the link of each vertex of a closed manifold is one cycle
pub link-cycle : (fs : List Triple) → Different fs → Once fs → Manifold fs → (v : ℕ) → Cycle v fs
link-cycle fs d o m v = record { connected = m.links v; neighbours = λ x h. two-neighbours fs d o v x m.edges h }

-- The test for nonmanifold vertices says what it should: of triples with three different corners, `nonmanifold` is false exactly where they
-- form a closed manifold (`manifold-elim`, `manifold-intro`). The premise costs nothing: the surface of well numbered elements has no other
-- triples (Boundary.antt), and without it the law fails (Examples.antt, `one-point`). Assumes nothing.
use mathlib.Core.Path.{◌≡◌, refl, sym, ap, ap₂, ◌∙◌}
use mathlib.Core.Logic.{◌≢◌, ◌⊎◌, inl, inr}
use mathlib.Core.Bool.{true, false, ◌&&◌, and_comm}
use mathlib.Core.List.Memᴰ
use mathlib.Core.List.{List, [], ◌∷◌, ◌++◌, Memᴰ}
use Prim.Native.Nat.{ℕ, ◌≤◌, ◌<◌}
use native.Mathlib.Omega.{arith}
use borrow.Author.Tests.{eqb-true, eq-eqb, ltb-true, ltb-false, not-false}
use lib.Dec.{eqb, ltb}
use lib.ListN.{length}
use Rattle.mesh.specs.declared.element.Pair.{Pair}
use Rattle.mesh.specs.declared.element.Triple.{Triple}
use Rattle.mesh.specs.Complex.{mem}
use Rattle.mesh.specs.Tests.{every}
use Rattle.mesh.specs.Sets.{times}
use Rattle.mesh.specs.Element.{corners_of, pair, same_pair, all_corners}
use Rattle.mesh.specs.Manifold.{surface_edges, edges_twice, surface_link, one_cycle, nonmanifold}
use Rattle.mesh.proofs.Laws.Complex.Sets.{split, and-fst, and-snd, mem-cases, mem-nil}
use Rattle.mesh.proofs.Laws.Link.Members.{Decides, keep_same, every-elim, every-intro}
use Rattle.mesh.proofs.Laws.Link.Simplices.{every-mem, mem-every}
use Rattle.mesh.proofs.Laws.Link.Keys.{three-nodup, flip≢}
use Rattle.mesh.proofs.Laws.Link.Boundary.{times-some}
use Rattle.mesh.proofs.Laws.Star.Chains.{mem-left, mem-right}
use Rattle.theorems.specs.Manifold.{Different, triples_on, EdgesOnTwo, LinkVertex, LinkEdge, Joined, here, along, Connected, Manifold}
use Rattle.theorems.proofs.Manifold.Counts.{kept-some, kept-count}
use Rattle.theorems.proofs.Manifold.Corners.{three-apart, mem-first, mem-second, mem-third, three-sub}
use Rattle.theorems.proofs.Manifold.Ends.{end_of, degree, NoLoops}
use Rattle.theorems.proofs.Manifold.Reach.{Closed, cycle-elim, cycle-intro}
use Rattle.theorems.proofs.Manifold.Links.{link-elim, link-intro, link-count}
use Rattle.theorems.proofs.Manifold.Edges.{edge_count, edge-elim}

-- ---- edges

on-swap : (u v : ℕ) (fs : List Triple) → triples_on u v fs ≡ triples_on v u fs
on-swap u v fs =
    ap length (keep_same (λ f. mem u (corners_of f) && mem v (corners_of f)) (λ f. mem v (corners_of f) && mem u (corners_of f)) fs (λ f. and_comm (mem u (corners_of f)) (mem v (corners_of f))))

on_some : (u v : ℕ) (fs : List Triple) {f : Triple} → Memᴰ f fs → mem u (corners_of f) ≡ true → mem v (corners_of f) ≡ true → 1 ≤ triples_on u v fs
on_some u v fs m p q = kept-count (λ f. mem u (corners_of f) && mem v (corners_of f)) fs m (rw (p, q) refl)

pair-decides : Decides same_pair
pair-decides = record {
  equal = λ e g h. ap₂ pair (eqb-true e.a g.a (and-fst (eqb e.a g.a) (eqb e.b g.b) h)) (eqb-true e.b g.b (and-snd (eqb e.a g.a) (eqb e.b g.b) h));
  self = λ e. rw (eq-eqb e.a e.a refl, eq-eqb e.b e.b refl) refl;
}

edges-elim : (fs : List Triple) → Different fs → edges_twice fs ≡ true → EdgesOnTwo fs
unfolding edges_twice
edges-elim fs d h f m u v p q n =
    elim (split (ltb u v)) [
      | inl k ↦ rising u v (ltb-true u v k) p q
      | inr k ↦ on-swap u v fs ∙ rising v u (let l = ltb-false u v k in omega arith) q p
    ]
  where
    rising : (u v : ℕ) → u < v → mem u (corners_of f) ≡ true → mem v (corners_of f) ≡ true → triples_on u v fs ≡ 2
    rising u v l p q =
        let e = edge_count u v fs d l in
        let i = times-some same_pair pair-decides (pair u v) (surface_edges fs) (let k = on_some u v fs m p q in omega arith) in
        sym e ∙ eqb-true _ 2 (every-elim (λ e. eqb (times same_pair e (surface_edges fs)) 2) (surface_edges fs) h i)

edges-intro : (fs : List Triple) → Different fs → EdgesOnTwo fs → edges_twice fs ≡ true
unfolding edges_twice
edges-intro fs d t =
    every-intro (λ e. eqb (times same_pair e (surface_edges fs)) 2) (surface_edges fs)
    (λ e m. let r = edge-elim fs d e m in eq-eqb _ 2 (edge_count e.a e.b fs d r.2.rise ∙ t r.0 r.1 e.a e.b r.2.first r.2.second (apart r.2.rise)))
  where
    apart : {x y : ℕ} → x < y → x ≢ y
    apart h e = omega arith

-- ---- paths within a link

module _ {v : ℕ} {fs : List Triple} where
  edge-back : {x y : ℕ} → LinkEdge v fs x y → LinkEdge v fs y x
  edge-back {x} {y} e =
      let n = three-apart v x y e.different in
      record {
        face = e.face;
        listed = e.listed;
        different = three-nodup v y x n.xz n.xy (flip≢ n.yz);
        corners = three-sub v y x (corners_of e.face) (e.corners v (mem-first v x y)) (e.corners y (mem-third v x y)) (e.corners x (mem-second v x y));
      }

  -- the first end of a link edge is a vertex of the link
  edge-vertex : {x y : ℕ} → LinkEdge v fs x y → LinkVertex v fs x
  edge-vertex {x} {y} e = record {
    face = e.face;
    listed = e.listed;
    corner = e.corners v (mem-first v x y);
    other = e.corners x (mem-second v x y);
    differ = (three-apart v x y e.different).xy;
  }

  joined-trans : {x y z : ℕ} → Joined v fs x y → Joined v fs y z → Joined v fs x z
  joined-trans p here = p
  joined-trans p (along q e) = along (joined-trans p q) e

  joined_back : {x y : ℕ} → Joined v fs x y → Joined v fs y x
  joined_back here = here
  joined_back (along p e) = joined-trans (along here (edge-back e)) (joined_back p)

-- ---- links

-- a list of pairs that are the edges of the link of v, each end of which lies on two
record Cover (v : ℕ) (fs : List Triple) (es : List Pair) : Type 0 where
  sound : (e : Pair) → Memᴰ e es → LinkEdge v fs e.a e.b
  complete : (x y : ℕ) → LinkEdge v fs x y → Memᴰ (pair x y) es ⊎ Memᴰ (pair y x) es
  two : (x : ℕ) → LinkVertex v fs x → degree x es ≡ 2

cover : (v : ℕ) (fs : List Triple) → Different fs → EdgesOnTwo fs → Cover v fs (surface_link v fs)
cover v fs d t = record {
  sound = link-elim v fs d;
  complete = link-intro v fs d;
  two = λ x h. link-count v x fs d h.differ ∙ t h.face h.listed v x h.corner h.other h.differ;
}

module _ {v : ℕ} {fs : List Triple} where
  no-loops : {es : List Pair} → Cover v fs es → NoLoops es
  no-loops c e m = (three-apart v e.a e.b (c.sound e m).different).yz

  two-each : {es : List Pair} → Cover v fs es → (e : Pair) → Memᴰ e es → (degree e.a es ≡ 2) × (degree e.b es ≡ 2)
  two-each c e m = let k = c.sound e m in (c.two e.a (edge-vertex k), c.two e.b (edge-vertex (edge-back k)))

  -- where the test holds, all ends are joined to one
  cycle-joined : (es : List Pair) → Cover v fs es → one_cycle es ≡ true → (s : ℕ) × ((e : Pair) → Memᴰ e es → Joined v fs s e.a × Joined v fs s e.b)
  cycle-joined [] c h = (0, λ e m. absurd (Memᴰ.not-nil m))
  cycle-joined (e₀ ∷ es) c h = (
    e₀.a,
    cycle-elim e₀ es (no-loops c) (two-each c) h (Joined v fs e₀.a) here (record { there = λ e m j. along j (c.sound e m); back = λ e m j. along j (edge-back (c.sound e m)) }),
  )

  -- no path leads out of a closed set
  closed-joined : {es : List Pair} (seen : List ℕ) → Cover v fs es → Closed es seen → {x y : ℕ} → mem x seen ≡ true → Joined v fs x y → mem y seen ≡ true
  closed-joined seen c k m here = m
  closed-joined seen c k m (along {y} {z} j e) =
      let n = closed-joined seen c k m j in
      elim (c.complete y z e) [ inl l ↦ sym (k (pair y z) l) ∙ n | inr l ↦ k (pair z y) l ∙ n ]

  -- where all vertices of the link are joined, the test holds
  joined-cycle : (es : List Pair) → Cover v fs es → Connected v fs → one_cycle es ≡ true
  unfolding one_cycle
  joined-cycle [] c h = refl
  joined-cycle (e₀ ∷ es) c h =
      cycle-intro e₀ es (no-loops c) (two-each c)
      (λ seen m k e l.
      let s = c.sound e l in
      let start = edge-vertex (c.sound e₀ (Memᴰ.head refl)) in
      (closed-joined seen c k m (h e₀.a e.a start (edge-vertex s)), closed-joined seen c k m (h e₀.a e.b start (edge-vertex (edge-back s)))))

surface-vertex : (v : ℕ) (fs : List Triple) {f : Triple} → Memᴰ f fs → mem v (corners_of f) ≡ true → mem v (all_corners fs) ≡ true
unfolding all_corners
surface-vertex v [] m h = absurd (Memᴰ.not-nil m)
surface-vertex v (g ∷ fs) {f} m h = go (Memᴰ.cases_cons m) (surface-vertex v fs {f = f})
  where
    go : (f ≡ g) ⊎ Memᴰ f fs → (Memᴰ f fs → mem v (corners_of f) ≡ true → mem v (all_corners fs) ≡ true) → mem v (corners_of g ++ all_corners fs) ≡ true
    go (inl q) ih = mem-left v (corners_of g) (all_corners fs) (rw q at h)
    go (inr q) ih = mem-right v (corners_of g) (all_corners fs) (ih q h)

-- a vertex of the link is an end of a pair
vertex-pair : (v : ℕ) (fs : List Triple) → Different fs → (x : ℕ) → LinkVertex v fs x → (e : Pair) × Memᴰ e (surface_link v fs) × ((x ≡ e.a) ⊎ (x ≡ e.b))
vertex-pair v fs d x h =
    let k = on_some v x fs h.listed h.corner h.other in
    let e = link-count v x fs d h.differ in
    let r = kept-some (end_of x) (surface_link v fs) (omega arith) in (
      r.0,
      r.1,
      elim (mem-cases x r.0.a (r.0.b ∷ []) r.2) [
        | inl q ↦ inl q
        | inr q ↦ elim (mem-cases x r.0.b [] q) [ inl t ↦ inr t | inr t ↦ absurd (mem-nil x t) ]
      ],
    )

links-elim : (fs : List Triple) → Different fs → EdgesOnTwo fs → every (λ v. one_cycle (surface_link v fs)) (all_corners fs) ≡ true
    → (v : ℕ) → Connected v fs
links-elim fs d t h v x y hx hy =
    let o = every-mem (λ v. one_cycle (surface_link v fs)) (all_corners fs) h v (surface-vertex v fs hx.listed hx.corner) in
    let a = cycle-joined (surface_link v fs) (cover v fs d t) o in
    joined-trans (joined_back (from a x hx)) (from a y hy)
  where
    from : (a : (s : ℕ) × ((e : Pair) → Memᴰ e (surface_link v fs) → Joined v fs s e.a × Joined v fs s e.b)) (z : ℕ) → LinkVertex v fs z → Joined v fs a.0 z
    from a z hz =
        let r = vertex-pair v fs d z hz in
        let j = a.1 r.0 r.1 in
        elim r.2 [ inl q ↦ rw q j.0 | inr q ↦ rw q j.1 ]

links-intro : (fs : List Triple) → Different fs → EdgesOnTwo fs → ((v : ℕ) → Connected v fs)
    → every (λ v. one_cycle (surface_link v fs)) (all_corners fs) ≡ true
links-intro fs d t h = mem-every (λ v. one_cycle (surface_link v fs)) (all_corners fs) (λ v m. joined-cycle (surface_link v fs) (cover v fs d t) (h v))

-- ---- the test

-- a surface that passes the test is a closed manifold
pub manifold-elim : (fs : List Triple) → Different fs → nonmanifold fs ≡ false → Manifold fs
unfolding nonmanifold
manifold-elim fs d h =
    let k = not-false (edges_twice fs && every (λ v. one_cycle (surface_link v fs)) (all_corners fs)) h in
    let t = edges-elim fs d (and-fst (edges_twice fs) (every (λ v. one_cycle (surface_link v fs)) (all_corners fs)) k) in
    record { edges = t; links = links-elim fs d t (and-snd (edges_twice fs) (every (λ v. one_cycle (surface_link v fs)) (all_corners fs)) k) }

-- a closed manifold passes the test
pub manifold-intro : (fs : List Triple) → Different fs → Manifold fs → nonmanifold fs ≡ false
unfolding nonmanifold
manifold-intro fs d m = rw (edges-intro fs d m.edges, links-intro fs d m.edges m.links) refl

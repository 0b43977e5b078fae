-- The edges that a round takes are edges of its elements: two different vertices below the vertex count. Assumes nothing.
use mathlib.Core.Path.{◌≡◌, refl}
use mathlib.Core.Logic.{◌≢◌, inl, inr}
use mathlib.Core.Bool.{Bool, true, not, ◌&&◌}
use mathlib.Core.List.Memᴰ
use mathlib.Core.List.{List, [], ◌∷◌, ◌++◌, map, Memᴰ}
use Prim.Native.Nat.{ℕ, min, max, ◌<◌}
use native.Mathlib.Omega.{arith}
use borrow.Author.Tests.{lt-ltb, ne_eqb}
use lib.Dec.{eqb, ltb}
use lib.Ieee.{Float, lt}
use Rattle.geometry.specs.Float.{◌*₆₄◌}
use Rattle.geometry.specs.Literals.{three_quarters}
use Rattle.mesh.specs.declared.element.Pair.{Pair}
use Rattle.mesh.specs.declared.element.Tet.{Tet}
use Rattle.mesh.specs.Sort.{sort, unique_after, unique}
use Rattle.mesh.specs.Complex.{keep}
use Rattle.mesh.specs.inside.Complex.{IsElement, Proper}
use Rattle.mesh.specs.Tests.{every}
use Rattle.mesh.specs.Element.{edge, edges_of, all_edges, same_pair, vertices_of}
use Rattle.mesh.specs.Measure.{Measure, is_bad}
use Rattle.mesh.proofs.Laws.Complex.Sets.{split, and-fst, and-snd, mem-here, mem-there, out-head, out-tail}
use Rattle.mesh.proofs.Laws.Complex.Tets.{tet-of}
use Rattle.mesh.proofs.Laws.Link.Members.{kept-elim}
use Rattle.mesh.proofs.Laws.Boundary.Same.{sort-every}
use Rattle.repair.specs.Improve.{le_edge, listed_edges}

-- ---- a test that all pass

module _ {A : Type 0} (p : A → Bool) where
  pub every_append : (xs ys : List A) → every p xs ≡ true → every p ys ≡ true → every p (xs ++ ys) ≡ true
  every_append [] ys h k = k
  every_append (x ∷ xs) ys h k = rw (and-fst (p x) (every p xs) h) (every_append xs ys (and-snd (p x) (every p xs) h) k)

  pub every-keep : (q : A → Bool) (xs : List A) → every p xs ≡ true → every p (keep q xs) ≡ true
  every-keep q [] h = refl
  every-keep q (x ∷ xs) h =
      let ih : every p (keep q xs) ≡ true = every-keep q xs (and-snd (p x) (every p xs) h) in
      elim (split (q x)) [ inl k ↦ rw (k, and-fst (p x) (every p xs) h) ih | inr k ↦ rw k ih ]

  every-after : (eq : A → A → Bool) (q : A) (xs : List A) → every p xs ≡ true → every p (unique_after eq q xs) ≡ true
  unfolding unique_after
  every-after eq q [] h = refl
  every-after eq q (x ∷ xs) h =
      let hs = and-snd (p x) (every p xs) h in
      elim (split (eq q x)) [ inl e ↦ rw e (every-after eq q xs hs) | inr e ↦ rw (e, and-fst (p x) (every p xs) h) (every-after eq x xs hs) ]

  pub every-unique : (eq : A → A → Bool) (xs : List A) → every p xs ≡ true → every p (unique eq xs) ≡ true
  unfolding unique
  every-unique eq [] h = refl
  every-unique eq (x ∷ xs) h = rw (and-fst (p x) (every p xs) h) (every-after eq x xs (and-snd (p x) (every p xs) h))

-- ---- edges

-- two different vertices below n
abbrev pub joins : ℕ → Pair → Bool
joins n e = ltb e.a n && (ltb e.b n && not (eqb e.a e.b))

edge-joins : (n u v : ℕ) → u < n → v < n → u ≢ v → joins n (edge u v) ≡ true
edge-joins n u v hu hv d =
    let a : min u v < n = omega arith in
    let b : max u v < n = omega arith in
    let c : min u v ≢ max u v = λ e. d (omega arith) in
    rw (lt-ltb (min u v) n a, lt-ltb (max u v) n b, ne_eqb (min u v) (max u v) c) refl

four-joins : (n : ℕ) (t : Tet) → IsElement n (vertices_of t) → every (joins n) (edges_of t) ≡ true
four-joins n t i = by t.a t.b t.c t.d i
  where
    by : (a b c d : ℕ) → IsElement n (a ∷ b ∷ c ∷ d ∷ []) → every (joins n) (edge a b ∷ edge a c ∷ edge a d ∷ edge b c ∷ edge b d ∷ edge c d ∷ []) ≡ true
    by a b c d i =
        let la = i.below a (mem-here a (b ∷ c ∷ d ∷ [])) in
        let lb = i.below b (mem-there b a (b ∷ c ∷ d ∷ []) (mem-here b (c ∷ d ∷ []))) in
        let lc = i.below c (mem-there c a (b ∷ c ∷ d ∷ []) (mem-there c b (c ∷ d ∷ []) (mem-here c (d ∷ [])))) in
        let ld = i.below d (mem-there d a (b ∷ c ∷ d ∷ []) (mem-there d b (c ∷ d ∷ []) (mem-there d c (d ∷ []) (mem-here d [])))) in
        let oa = out-tail a b (c ∷ d ∷ []) i.distinct.0 in
        let ob = out-tail b c (d ∷ []) i.distinct.1.0 in
        rw (
          edge-joins n a b la lb (out-head a b (c ∷ d ∷ []) i.distinct.0),
          edge-joins n a c la lc (out-head a c (d ∷ []) oa),
          edge-joins n a d la ld (out-head a d [] (out-tail a c (d ∷ []) oa)),
          edge-joins n b c lb lc (out-head b c (d ∷ []) i.distinct.1.0),
          edge-joins n b d lb ld (out-head b d [] ob),
          edge-joins n c d lc ld (out-head c d [] i.distinct.1.1.0),
        )
        refl

pub edges-join : (n : ℕ) (ts : List Tet) → ((t : Tet) → Memᴰ t ts → IsElement n (vertices_of t)) → every (joins n) (all_edges ts) ≡ true
unfolding all_edges
edges-join n [] h = refl
edges-join n (t ∷ ts) h = every_append (joins n) (edges_of t) (all_edges ts) (four-joins n t (h t (Memᴰ.head refl))) (edges-join n ts (λ u k. h u (Memᴰ.tail k)))

-- the edges that a round takes pass a test that all edges of bad elements pass
listed-every : (p : Pair → Bool) (μ : Measure) (h : Float) (ts : List Tet) → every p (all_edges (keep (is_bad μ) ts)) ≡ true → every p (listed_edges μ h ts) ≡ true
unfolding listed_edges
listed-every p μ h ts k =
    every-unique p same_pair (sort (le_edge μ) (keep short bads)) (sort-every p (le_edge μ) (keep short bads) (every-keep p short bads k))
  where
    short : Pair → Bool
    short e = lt (μ.length e) (three_quarters *₆₄ h)

    bads : List Pair
    bads = all_edges (keep (is_bad μ) ts)

-- they join two different vertices of an element
pub listed-joins : (n : ℕ) (μ : Measure) (h : Float) (ts : List Tet) → ((t : Tet) → Memᴰ t ts → IsElement n (vertices_of t)) → every (joins n) (listed_edges μ h ts) ≡ true
listed-joins n μ h ts f = listed-every (joins n) μ h ts (edges-join n (keep (is_bad μ) ts) (λ t k. f t (kept-elim (is_bad μ) ts k).0))

pub listed-join : (n : ℕ) (μ : Measure) (h : Float) (ts : List Tet) → Proper n (map vertices_of ts) → every (joins n) (listed_edges μ h ts) ≡ true
listed-join n μ h ts P = listed-joins n μ h ts (λ t k. tet-of {n = n} P (Memᴰ.map vertices_of k))

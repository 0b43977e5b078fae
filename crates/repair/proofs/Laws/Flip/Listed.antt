-- What is listed: a listed face has its three vertices in rising order, and a listed edge two different ones. Assumes nothing.
use mathlib.Core.Path.{◌≡◌, refl, ap}
use mathlib.Core.Logic.{◌≢◌}
use mathlib.Core.Bool.{Bool, true, not}
use mathlib.Core.List.{List, [], ◌∷◌, map, Memᴰ}
use Prim.Native.Nat.{ℕ, min, max}
use native.Mathlib.Omega.{arith}
use lib.Dec.{eqb}
use borrow.Author.Tests.{ne_eqb}
use Rattle.mesh.specs.declared.element.Pair.{Pair}
use Rattle.mesh.specs.declared.element.Triple.{Triple}
use Rattle.mesh.specs.declared.element.Tet.{Tet}
use Rattle.mesh.specs.Sort.{sort}
use Rattle.mesh.specs.Complex.{keep}
use Rattle.mesh.specs.Tests.{every}
use Rattle.mesh.specs.Element.{edge, all_edges, faces_of, corners_of, key_of, same_pair, le_pair}
use Rattle.mesh.specs.Boundary.{same_triple, le_triple, all_faces}
use Rattle.mesh.specs.Measure.{Measure, is_bad}
use Rattle.mesh.proofs.Laws.Complex.Sets.{out-head, out-tail}
use Rattle.mesh.proofs.Laws.Link.Members.{kept-elim}
use Rattle.mesh.proofs.Laws.Link.Simplices.{rising}
use Rattle.mesh.proofs.Laws.Link.Keys.{Fours, key-rising, face-nodup}
use Rattle.mesh.proofs.Laws.Boundary.Same.{sort-every}
use Rattle.repair.specs.Flip.{listed_faces, listed_edges}
use Rattle.repair.proofs.Laws.Improve.Edges.{every-unique}

kept-fours : (μ : Measure) (ts : List Tet) → Fours ts → Fours (keep (is_bad μ) ts)
kept-fours μ ts d t m = d t (kept-elim (is_bad μ) ts m).0

-- ---- faces

-- the corners of every face's key rise
pub keys-rise : (ts : List Tet) → Fours ts → every (λ f. rising (corners_of f)) (map key_of (all_faces ts)) ≡ true
unfolding all_faces
keys-rise [] d = refl
keys-rise (t ∷ ts) d = rw (at₀, at₁, at₂, at₃) (keys-rise ts (λ u m. d u (Memᴰ.tail m)))
  where
    at : (f : Triple) → Memᴰ f (faces_of t) → rising (corners_of (key_of f)) ≡ true
    at f m = key-rising f (face-nodup t f (d t (Memᴰ.head refl)) m)

    at₀ : rising (corners_of (key_of (record { a = t.a; b = t.b; c = t.d }))) ≡ true
    at₀ = at (record { a = t.a; b = t.b; c = t.d }) (Memᴰ.head refl)

    at₁ : rising (corners_of (key_of (record { a = t.a; b = t.c; c = t.b }))) ≡ true
    at₁ = at (record { a = t.a; b = t.c; c = t.b }) (Memᴰ.tail (Memᴰ.head refl))

    at₂ : rising (corners_of (key_of (record { a = t.a; b = t.d; c = t.c }))) ≡ true
    at₂ = at (record { a = t.a; b = t.d; c = t.c }) (Memᴰ.tail (Memᴰ.tail (Memᴰ.head refl)))

    at₃ : rising (corners_of (key_of (record { a = t.b; b = t.c; c = t.d }))) ≡ true
    at₃ = at (record { a = t.b; b = t.c; c = t.d }) (Memᴰ.tail (Memᴰ.tail (Memᴰ.tail (Memᴰ.head refl))))

-- the corners of a listed face rise
pub faces-rise : (μ : Measure) (ts : List Tet) → Fours ts → every (λ f. rising (corners_of f)) (listed_faces μ ts) ≡ true
unfolding listed_faces
faces-rise μ ts d =
    every-unique (λ f. rising (corners_of f)) same_triple (sort le_triple (map key_of (all_faces (keep (is_bad μ) ts))))
    (sort-every (λ f. rising (corners_of f)) le_triple (map key_of (all_faces (keep (is_bad μ) ts))) (keys-rise (keep (is_bad μ) ts) (kept-fours μ ts d)))

-- ---- edges

abbrev proper-edge : Pair → Bool
proper-edge e = not (eqb e.a e.b)

edge-differs : (u v : ℕ) → u ≢ v → proper-edge (edge u v) ≡ true
edge-differs u v n = ap not (ne_eqb (min u v) (max u v) (λ e. n (omega arith)))

edges-differ : (ts : List Tet) → Fours ts → every proper-edge (all_edges ts) ≡ true
unfolding all_edges
edges-differ [] d = refl
edges-differ (t ∷ ts) d =
    let h = d t (Memᴰ.head refl) in
    rw (
      edge-differs t.a t.b (out-head t.a t.b (t.c ∷ t.d ∷ []) h.0),
      edge-differs t.a t.c (out-head t.a t.c (t.d ∷ []) (out-tail t.a t.b (t.c ∷ t.d ∷ []) h.0)),
      edge-differs t.a t.d (out-head t.a t.d [] (out-tail t.a t.c (t.d ∷ []) (out-tail t.a t.b (t.c ∷ t.d ∷ []) h.0))),
      edge-differs t.b t.c (out-head t.b t.c (t.d ∷ []) h.1.0),
      edge-differs t.b t.d (out-head t.b t.d [] (out-tail t.b t.c (t.d ∷ []) h.1.0)),
      edge-differs t.c t.d (out-head t.c t.d [] h.1.1.0),
    )
    (edges-differ ts (λ u m. d u (Memᴰ.tail m)))

-- the ends of a listed edge differ
pub ends-differ : (μ : Measure) (ts : List Tet) → Fours ts → every (λ e. not (eqb e.a e.b)) (listed_edges μ ts) ≡ true
unfolding listed_edges
ends-differ μ ts d =
    every-unique proper-edge same_pair (sort le_pair (all_edges (keep (is_bad μ) ts)))
    (sort-every proper-edge le_pair (all_edges (keep (is_bad μ) ts)) (edges-differ (keep (is_bad μ) ts) (kept-fours μ ts d)))

-- The feature tests of an edge (`feature_link_ok` of repair.rs), on values: "no new labelled curve edge, no lost curve edge except the
-- collapsed one, and the 1D link condition on each rim". A labelled edge has two bits x < y that the strata of both its ends have, and
-- its ends u ≤ v. Definitions only.
use Rattle.std.specs.Prelude.{ℕ, zero, suc, ◌+◌, ◌-◌, ◌*◌, ◌/◌, ◌%◌, min, max, Bool, false, cond, not, ◌&&◌, ◌||◌, List, [], ◌∷◌, ◌++◌, map, length, take, ◌==◌, nat_le, slice_index}
use Rattle.geometry.specs.declared.point.Point.{Point}
use Rattle.geometry.specs.declared.bounds.Bounds.{Bounds}
use Rattle.geometry.specs.Bounds.{stratum}
use Rattle.mesh.specs.declared.element.Tet.{Tet}
use Rattle.mesh.specs.declared.element.Triple.{Triple}
use Rattle.mesh.specs.declared.strata.Strata.{Strata}
use Rattle.mesh.specs.Complex.{mem, keep, sub}
use Rattle.mesh.specs.Tests.{every, nodup}
use Rattle.mesh.specs.Sets.{same_set}
use Rattle.mesh.specs.Element.{triple, tets, vertices_of}
use Rattle.mesh.specs.Link.{interior_ok, boundary_about, boundary_ok}
use Rattle.mesh.specs.Words.{point_at, points_in, zero_words}
use Rattle.mesh.specs.Manifold.{Tested}

pub record Label : Type 0 where
  pub x : ℕ
  pub y : ℕ
  pub u : ℕ
  pub v : ℕ

-- two bits and the edge u v, its ends in order
abbrev pub label : ℕ → ℕ → ℕ → ℕ → Label
label x y u v = record { x = x; y = y; u = min u v; v = max u v }

abbrev pub same_label : Label → Label → Bool
same_label l m = l.x == m.x && (l.y == m.y && (l.u == m.u && l.v == m.v))

-- the places of the bits of m, n of them from place k on
unfoldable pub bits_from : ℕ → ℕ → ℕ → List ℕ
bits_from zero k m = []
bits_from (suc n) k m = cond (m % 2 == 1) (k ∷ []) [] ++ bits_from n (k + 1) (m / 2)

-- the bits of a stratum, 0 to 37 in rising order
unfoldable pub bits_of : ℕ → List ℕ
unfolding bits_from
bits_of m = bits_from 38 0 m

-- the bits that two strata share
abbrev pub shared : ℕ → ℕ → List ℕ
shared m n = keep (λ k. mem k (bits_of n)) (bits_of m)

-- the edge u v under x and each of the bits ys
abbrev pub labels_with : ℕ → List ℕ → ℕ → ℕ → List Label
labels_with x ys u v = map (λ y. label x y u v) ys

-- the edge u v under each pair of the bits
unfoldable pub labels_under : List ℕ → ℕ → ℕ → List Label
labels_under [] u v = []
labels_under (x ∷ ys) u v = labels_with x ys u v ++ labels_under ys u v

module _ (stratum : ℕ → ℕ) where
  -- the edge u v under each pair of bits that its ends share
  abbrev pub labels : ℕ → ℕ → List Label
  labels u v = labels_under (shared (stratum u) (stratum v)) u v

  -- the labelled edges of the faces
  unfoldable pub features : List Triple → List Label
  features [] = []
  features (f ∷ fs) = (labels f.a f.b ++ (labels f.b f.c ++ labels f.c f.a)) ++ features fs

-- three different vertices
abbrev pub three_apart : Triple → Bool
three_apart f = not (f.a == f.b) && (not (f.b == f.c) && not (f.a == f.c))

-- b in the place of a
abbrev pub onto : ℕ → ℕ → ℕ → ℕ
onto a b x = cond (x == a) b x

-- the faces after a went into b, but those with fewer than three vertices left
abbrev pub mapped : ℕ → ℕ → List Triple → List Triple
mapped a b fs = keep three_apart (map (λ f. triple (onto a b f.a) (onto a b f.b) (onto a b f.c)) fs)

-- the labelled edges that the collapse should leave: those before, with a gone into b, but for the edge a b
abbrev pub expected : ℕ → ℕ → List Label → List Label
expected a b old = keep (λ l. not (l.u == l.v)) (map (λ l. label l.x l.y (onto a b l.u) (onto a b l.v)) old)

-- the other ends of the labelled edges at w with the two bits of l
unfoldable pub neighbours : Label → ℕ → List Label → List ℕ
neighbours l w [] = []
neighbours l w (m ∷ ms) =
    cond (l.x == m.x && l.y == m.y)
    (cond (m.u == w) (m.v ∷ neighbours l w ms) (cond (m.v == w) (m.u ∷ neighbours l w ms) (neighbours l w ms)))
    (neighbours l w ms)

-- third test of `link_ok`: the labelled edges after the collapse are the expected ones
unfoldable pub edges_ok : (ℕ → ℕ) → ℕ → ℕ → List Triple → Bool
edges_ok stratum a b fs = same_set same_label (features stratum (mapped a b fs)) (expected a b (features stratum fs))

-- fourth test: under the bits of each labelled edge a b, its two ends have no neighbour in common
unfoldable pub neighbours_ok : (ℕ → ℕ) → ℕ → ℕ → List Triple → Bool
neighbours_ok stratum a b fs =
    let old = features stratum fs in
    every (λ l. not (l.u == min a b && l.v == max a b) || every (λ n. not (mem n (neighbours l b old))) (neighbours l a old)) old

-- `feature_link_ok`
unfoldable pub feature_ok : (ℕ → ℕ) → ℕ → ℕ → List Triple → Bool
feature_ok stratum a b fs = edges_ok stratum a b fs && neighbours_ok stratum a b fs

-- `link_ok`: its tests in the Rust's order
unfoldable pub link_ok : (ℕ → ℕ) → ℕ → ℕ → List Tet → Bool
link_ok stratum a b ts = interior_ok a b ts && (boundary_ok a b ts && feature_ok stratum a b (boundary_about a b ts))

-- ---- within one area

-- the stratum of a vertex
abbrev pub stratum_of : List ℕ → List Point → Bounds → ℕ → ℕ
stratum_of masks ps bounds v = stratum (slice_index masks v) (point_at ps v) bounds

-- the strata of the vertices
abbrev pub strata_in : Strata → ℕ → ℕ
strata_in s = stratum_of s.masks.now (points_in s.parameters) s.bounds

-- "16,384 elements", 88 words an element, and four different vertices in each element
unfoldable pub link_fits : ℕ → List ℕ → Bool
link_fits n s = nat_le n 16384 && (nat_le (88 * n) (length s) && every (λ t. nodup (vertices_of t)) (tets n s))

-- whether a's bits are b's, and the edge passes `link_ok`, with zeros behind the elements; no, and the area as it was, where it does not fit
unfoldable pub link_ok_in : (ℕ → ℕ) → ℕ → ℕ → ℕ → List ℕ → Tested
link_ok_in stratum a b n s =
    cond (link_fits n s)
    (record { answer = sub (bits_of (stratum a)) (bits_of (stratum b)) && link_ok stratum a b (tets n s); area = take (4 * n) s ++ zero_words (length s - 4 * n) })
    (record { answer = false; area = s })
